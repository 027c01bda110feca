pub mod Buffer
pub mod ByForm
