use Rattle.std.proofs.Common.{rules, ◌≡◌, ◌<◌, [], ℕ, ◌+◌, nat_eq, true, false, if◌then◌else◌, ◌∷◌, ◌++◌, length, ap, sym, ◌∙◌, subst, get_or, set, arith}
use Rattle.std.proofs.lemmas.Bool.Decides.{nat_tests}
use Rattle.std.proofs.lemmas.Grind.{common_steps}
use Rattle.geocode.specs.NameHash.{key_of}
use Rattle.geocode.specs.NameIndex.{AddsSpans, IsChain, is_link_of, with_first, first_of}
use Rattle.geocode.specs.declared.name_index.Link.{Link}
use Rattle.geocode.proofs.NameIndexLemmas.{AddsSpans-push, IsChain-cases, IsChain-first, IsChain-push, first-set, with_first-same}
use Rattle.geocode.proofs.name_index.NameIndex.add.Goals as goal

pub returns-then-is_link_of : goal.returns-then-is_link_of
returns-then-is_link_of g c = record {
  keys = search rules;
  chains = λ chains chained q.
      let links = c.args.self.now.links.items in
      let segment = c.args.segment in
      let first = first_of c.args.self.now q in
      IsChain-cases (nat_eq (key_of c.args.self.now.keys c.args.hash) q) links first (with_first segment (chains q)) (chains q)
      (λ same. let at : c.first_of_key-next.result ≡ first = grind (arith, nat_tests, common_steps) in
      let is : is_link_of links first segment ≡ true =
      subst (λ number. is_link_of links number segment ≡ true) at (sym c.is_link_of.ensures ∙ c.if-is_link_of.true) in
      subst (IsChain links first) (sym (with_first-same links segment first (chains q) (chained q) is)) (chained q))
      (λ apart. chained q);
  spans = λ segments includes spanned. spanned;
}

pub returns : goal.returns
returns g c = record {
  keys = search rules;
  chains = λ chains chained q.
      let index = c.args.self.now in
      let links = index.links.items in
      let firsts = index.firsts.items in
      let segment = c.args.segment in
      let next = c.first_of_key-next.result in
      let key = c.key-key.result in
      let count = c.len-2.result in
      let first : ℕ = get_or (set firsts key count) q 0 in
      let more : Link = record { segment = segment; span = c.args.span; next = next } in
      let pushed : c.push.new.self.items ≡ links ++ more ∷ [] = c.in_ok-push.ensures.items in
      let counted : count ≡ length links + 1 = grind (arith, common_steps) in
      let inside : key < length firsts = omega (arith, c.key-key.ensures.small, index.first_of_each) in
      let found : first ≡ (if nat_eq key q then count else first_of index q) = first-set firsts key count q inside in
      IsChain-cases (nat_eq (key_of index.keys c.args.hash) q) c.push.new.self.items first (with_first segment (chains q)) (chains q)
      (λ same.
      let here : nat_eq key q ≡ true = ap (λ key. nat_eq key q) c.key-key.ensures.value ∙ same in
      let is : key ≡ q = grind (arith, nat_tests) in
      let at : first ≡ length links + 1 = found ∙ ap (λ here. if here then count else first_of index q) here ∙ counted in
      let was : first_of index q ≡ next = subst (λ q. first_of index q ≡ next) is (sym c.first_of_key-next.ensures) in
      let chain = subst (λ number. IsChain links number (chains q)) was (chained q) in
      rw (pushed, at) (IsChain-first links segment c.args.span next (chains q) chain (sym c.is_link_of.ensures ∙ c.if-is_link_of.false)))
      (λ apart.
      let there : nat_eq key q ≡ false = ap (λ key. nat_eq key q) c.key-key.ensures.value ∙ apart in
      let at : first ≡ first_of index q = found ∙ ap (λ here. if here then count else first_of index q) there in
      rw (pushed, at) (IsChain-push links more (first_of index q) (chains q) (chained q)));
  spans =
      let links = c.args.self.now.links.items in
      let more : Link = record { segment = c.args.segment; span = c.args.span; next = c.first_of_key-next.result } in
      subst (λ links'. AddsSpans links links' c.args.segment c.args.span) (sym c.in_ok-push.ensures.items) (AddsSpans-push links more);
}
