mod AcceptorLemmas
mod BytesLemmas
mod RepeatsLemmas
