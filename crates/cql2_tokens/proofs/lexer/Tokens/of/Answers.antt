use Rattle.std.proofs.Common.{◌≡◌, length, sym, arith}
use Rattle.cql2_tokens.specs.Lexed.{start, token}
use Rattle.cql2_tokens.proofs.CutLemmas.{all-read, all-tokens, blank-step, first-token, nothing-left, token-step}
use Rattle.cql2_tokens.proofs.LexerLemmas.{lexes-white-space, token-shorter}
use Rattle.cql2_tokens.proofs.lexer.Tokens.of.Goals as goal
use Rattle.cql2_tokens.proofs.lexer.Tokens.of.Goals.{in-Some+else-is_white_space+in_default-first_token, in_default}

pub loop-byte-init : goal.loop-byte-init
loop-byte-init g c =
    record {
      lexes = rw c.new-tokens.ensures.items start;
      within = omega arith;
      more = λ words lexes. rw c.new-tokens.ensures.items (all-tokens c.args.text.now words lexes);
    }

pub loop-byte-preserved-then-is_white_space : goal.loop-byte-preserved-then-is_white_space
loop-byte-preserved-then-is_white_space g c =
    let blank = sym c.if-is_white_space.ensures in
    record {
      lexes = lexes-white-space _ _ _ _ _ c.loop-byte.invariant.lexes c.in-Some.ensures.cases.0 blank;
      within = omega (arith, c.in-Some.ensures.cases.1);
      more = λ words lexes.
          blank-step _ c.loop-byte.rest.now _ words _ (c.loop-byte.invariant.more words lexes) c.in-Some.ensures.cases.0 blank;
    }

pub loop-byte-preserved : goal.loop-byte-preserved
loop-byte-preserved g c =
    let is = c.in-Some-first_token.ensures.is in
    let shorter = token-shorter _ _ _ is in
    let no_blank = sym c.if-is_white_space.ensures in
    record {
      lexes = rw c.in_ok-push-2.ensures.items (token is c.loop-byte.invariant.lexes);
      within = omega arith;
      more = λ words lexes.
          let are = c.loop-byte.invariant.more words lexes in
          let word = first-token _ c.loop-byte.rest.now _ words _ are c.in-Some.ensures.cases.0 no_blank in
          rw c.in_ok-push-2.ensures.items (token-step _ c.loop-byte.rest.now _ words c.in-Some-first_token.token are word is);
    }

pub loop-byte-smaller : goal.loop-byte-smaller
loop-byte-smaller g c = token-shorter _ _ _ c.in-Some-first_token.ensures.is

pub returns-clause-reads : goal.returns-clause-reads
returns-clause-reads g c =
    λ words lexes.
    let are = c.loop-byte.invariant.more words lexes in
    let none_left : length c.loop-byte.rest.now ≡ 0 = elim c.match-split_first.branch [
      | in-Some+else-is_white_space+in_default-first_token w ↦
          let no_blank = sym w.if-is_white_space.ensures in
          let word = first-token _ c.loop-byte.rest.now _ words _ are w.in-Some.ensures.cases.0 no_blank in
          absurd (w.in_default-first_token.ensures.none word.rest word.first word.is)
      | in_default w ↦ w.in_default.ensures.cases
    ] in
    (nothing-left c.loop-byte.rest.now none_left, all-read _ _ words are none_left)
