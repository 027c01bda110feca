pub mod ScientificRows
