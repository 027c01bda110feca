pub mod BareRows
