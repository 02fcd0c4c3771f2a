mod CountLemmas
mod TextLemmas
