use Rattle.std.proofs.Common.{ℕ, ap, sym, ◌∙◌, subst}
use Rattle.geocode.specs.NameHash.{hash_of, key_of}
use Rattle.geocode.specs.NameIndex.{IsChain, first_of, has_key}
use Rattle.geocode.specs.Candidates.{numbers_with}
use Rattle.geocode.proofs.NameHashLemmas.{has_name-key}
use Rattle.geocode.proofs.name_index.NameIndex.candidates.Goals as goal

pub returns : goal.returns
returns g c = λ segments name is same.
    let index = c.args.self.now in
    let key = key_of index.keys (hash_of name) in
    let number = ap (λ (hash : ℕ). first_of index (key_of index.keys hash)) (sym same)
    ∙ sym (c.first_of_key.ensures ∙ ap (first_of index) c.key.ensures.value) in
    record {
      test = has_key index.keys key;
      left = record {
        links = subst (λ (number : ℕ). IsChain index.links.items number (numbers_with (has_key index.keys key) 0 segments)) number
            (is.chains key);
        spans = is.spans;
      };
      complete = λ segment none. has_name-key index.keys name segment none;
    }
