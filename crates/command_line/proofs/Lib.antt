mod AddressLemmas
mod ArgumentLemmas
mod PortLemmas
mod RequestLemmas
mod ValueLemmas
