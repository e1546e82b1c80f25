mod GroupRows
mod Rising
