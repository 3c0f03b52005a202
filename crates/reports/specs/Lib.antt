-- Reports. Definitions stand here; `Laws` holds what is proved of them.
pub mod Report
pub mod Laws
