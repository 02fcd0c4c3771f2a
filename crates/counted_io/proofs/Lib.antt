pub mod BufferLemmas
pub mod ContentLemmas
pub mod CopyLemmas
pub mod KnownBytesLemmas
