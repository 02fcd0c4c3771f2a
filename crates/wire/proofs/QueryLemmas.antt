-- The first pair of a query with a key, and the first one with an unknown key.
use Rattle.std.proofs.Common.{◌≡◌, ℕ, true, false, List, ◌∷◌, Some, refl}
use Rattle.std.specs.Str.{bytes_eq}
use Rattle.wire.specs.ParameterFault.{Unknown}
use Rattle.wire.specs.Query.{decoded, takes, unknown_in, value_in}
use Rattle.wire.specs.declared.query.Parameters.{Parameters}

-- a pair with the key is the first one
pub found_first : (key : List ℕ) (name value : List ℕ) (pairs : List (List ℕ × List ℕ)) → bytes_eq (decoded name) key ≡ true
    → value_in key ((name, value) ∷ pairs) ≡ Some (decoded value)
found_first key name value pairs is = rw is refl

-- a pair with another key is skipped
pub skipped : (key : List ℕ) (name value : List ℕ) (pairs : List (List ℕ × List ℕ)) → bytes_eq (decoded name) key ≡ false
    → value_in key ((name, value) ∷ pairs) ≡ value_in key pairs
skipped key name value pairs isnt = rw isnt refl

-- a key that isn't a parameter is the first such key
pub found_unknown : (parameters : Parameters) (name value : List ℕ) (pairs : List (List ℕ × List ℕ)) → takes parameters (decoded name) ≡ false
    → unknown_in parameters ((name, value) ∷ pairs) ≡ Some (Unknown (decoded name))
found_unknown parameters name value pairs isnt = rw isnt refl

-- a parameter isn't
pub skipped_known : (parameters : Parameters) (name value : List ℕ) (pairs : List (List ℕ × List ℕ)) → takes parameters (decoded name) ≡ true
    → unknown_in parameters ((name, value) ∷ pairs) ≡ unknown_in parameters pairs
skipped_known parameters name value pairs is = rw is refl
