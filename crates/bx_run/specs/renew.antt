-- A change with which a history begins anew.
pub mod Renewal
