mod EachBelow
pub mod SiteTiles
mod SitesAmong
