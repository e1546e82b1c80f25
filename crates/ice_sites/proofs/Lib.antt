mod Below
mod InOrder
mod Cutting
mod Linked
