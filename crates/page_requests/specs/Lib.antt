pub mod Cookies
pub mod Requests
pub mod Identities
pub mod Pages
pub mod PageLaws
