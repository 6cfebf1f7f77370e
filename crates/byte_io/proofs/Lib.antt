pub mod BytesChained
