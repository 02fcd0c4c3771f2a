-- The output for the addresses of a file that were read so far.
use Rattle.std.proofs.Common.{◌≡◌, ◌≢◌, ℕ, List, [], ◌∷◌, ◌++◌, Some, None, Result, Ok, Err, refl, ap, sym, ◌∙◌, append_assoc}
use Rattle.std.proofs.lemmas.List.{append-nil}
use Rattle.std.specs.List.{flat_map}
use Rattle.addresses.specs.Address.{AddressParts}
use Rattle.addresses.specs.Listing.{Listing, addresses_in, with_addresses}
use Rattle.addresses.specs.declared.fault.AddressFault.{AddressFault}
use Rattle.addresses.specs.declared.fault.AddressFault.TheVariants.{NoHeader, At, Memory}
use Rattle.addresses.proofs.ListingLaws.{one_more_lem}
use Rattle.address_batch.specs.Lines.{header, lines_of, lines_of_all}
use Rattle.address_batch.specs.Output.{IsAddressesFault, IsFaultOf, IsOutputOf, fault_of}
use Rattle.tl_segments.specs.County.{CountyParts}

-- some addresses of the file were read, this listing remains, and the text is the output for the addresses read
pub record IsOutputTo (file : List ℕ) (codes : List (List ℕ)) (counties : List CountyParts) (left : Listing) (text : List ℕ) : Type 0 where
  pub rows : List AddressParts
  pub read : addresses_in file ≡ Ok (with_addresses rows left)
  pub is_text : text ≡ lines_of_all codes counties rows

flat_map_more : {X : Type 0} (f : X → List ℕ) (xs : List X) (x : X) → flat_map f (xs ++ x ∷ []) ≡ flat_map f xs ++ f x
flat_map_more f [] x = append-nil (f x)
flat_map_more f (y ∷ xs) x = ap (λ (rest : List ℕ). f y ++ rest) (flat_map_more f xs x) ∙ sym (append_assoc (f y) (flat_map f xs) (f x))

module _ (file : List ℕ) (codes : List (List ℕ)) (counties : List CountyParts) where
  pub output_more : (left new : Listing) (address : AddressParts) (text lines more : List ℕ) → IsOutputTo file codes counties left text
      → left ≡ with_addresses (address ∷ []) new → lines ≡ lines_of codes counties address → more ≡ text ++ lines
      → IsOutputTo file codes counties new more
  output_more left new address text lines more output next lines_are more_is = record {
    rows = output.rows ++ address ∷ [];
    read = output.read ∙ ap Ok (one_more_lem output.rows address (with_addresses output.rows left) left new refl next);
    is_text = more_is ∙ ap (λ (text : List ℕ). text ++ lines) output.is_text ∙ ap (λ (lines : List ℕ). lines_of_all codes counties output.rows ++ lines) lines_are
        ∙ append_assoc header (flat_map (lines_of codes counties) output.rows) (lines_of codes counties address)
        ∙ ap (λ (all : List ℕ). header ++ all) (sym (flat_map_more (lines_of codes counties) output.rows address));
  }

-- a file has one output, or one fault
addresses_of : Result Listing AddressFault → List AddressParts
addresses_of (Ok listing) = listing.addresses
addresses_of (Err fault) = []

pub one_output : (file : List ℕ) (codes : List (List ℕ)) (counties : List CountyParts) (text other : List ℕ) → IsOutputOf file codes counties text
    → IsOutputOf file codes counties other → text ≡ other
unfolding addresses_of
one_output file codes counties text other is also =
    let same : is.addresses ≡ also.addresses = ap addresses_of (sym is.are_addresses ∙ also.are_addresses) in
    is.is_text ∙ ap (λ (addresses : List AddressParts). lines_of_all codes counties addresses) same ∙ sym also.is_text

pub fault_is : (file : List ℕ) (fault : AddressFault) → fault ≢ Memory → IsAddressesFault file fault → IsFaultOf file fault
fault_is file (At line flaw) known is = is
fault_is file NoHeader known is = is
fault_is file Memory known is = absurd (known refl)

pub one_output_fault : (file : List ℕ) (fault other : AddressFault) → IsFaultOf file fault → IsFaultOf file other → fault ≡ other
one_output_fault file fault other is also = let same : Some fault ≡ Some other = sym is ∙ also in cc

pub no_output_fault : (file : List ℕ) (codes : List (List ℕ)) (counties : List CountyParts) (text : List ℕ) (fault : AddressFault)
    → IsOutputOf file codes counties text → IsFaultOf file fault → ⊥
no_output_fault file codes counties text fault is faulty =
    let none : None ≡ Some fault = sym (ap fault_of is.are_addresses) ∙ faulty in cc
