mod KnownLemmas
mod MemoryLemmas
