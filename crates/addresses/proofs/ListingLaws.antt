-- Consecutive reads of addresses.
use Rattle.std.proofs.Common.{◌≡◌, ◌∙◌, List, [], ◌∷◌, ◌++◌, None, Some, sym, ap, append_assoc}
use Rattle.std.proofs.lemmas.List.{append-nil}
use Rattle.addresses.specs.Address.{AddressParts}
use Rattle.addresses.specs.Listing.{Listing, ended, ended_by, with_addresses}
use Rattle.addresses.specs.declared.fault.AddressFault.{AddressFault}

-- one more address after those already read
pub one_more_lem : (rows : List AddressParts) (address : AddressParts) (file old new : Listing) → file ≡ with_addresses rows old
    → old ≡ with_addresses (address ∷ []) new → file ≡ with_addresses (rows ++ address ∷ []) new
one_more_lem rows address file old new before next =
    before ∙ ap (with_addresses rows) next
    ∙ sym (ap (λ (all : List AddressParts). record { addresses = all; fault = new.fault }) (append_assoc rows (address ∷ []) new.addresses))

-- all addresses of the file
pub all_read_lem : (rows : List AddressParts) (file : Listing) → file ≡ with_addresses rows ended
    → file ≡ record { addresses = rows; fault = None }
all_read_lem rows file before = before ∙ ap (λ (all : List AddressParts). record { addresses = all; fault = None }) (append-nil rows)

-- all addresses before a fault
pub read_until_lem : (rows : List AddressParts) (fault : AddressFault) (file : Listing) → file ≡ with_addresses rows (ended_by fault)
    → file ≡ record { addresses = rows; fault = Some fault }
read_until_lem rows fault file before =
    before ∙ ap (λ (all : List AddressParts). record { addresses = all; fault = Some fault }) (append-nil rows)

pub ruleset reads = (one_more_lem, all_read_lem, read_until_lem)
