mod ActLemmas
mod DateLemmas
