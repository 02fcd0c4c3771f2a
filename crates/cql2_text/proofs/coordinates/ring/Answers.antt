use Rattle.std.proofs.Common.{◌≡◌, ◌<◌, ◌≤◌, IsTrue, length, arith, rules}
use Rattle.cql2_text.specs.declared.syntax_fault.SyntaxFault.TheVariants.{Memory}
use Rattle.cql2_text.proofs.GeometryLemmas.{ring-closed, ring-points, ring-some}
use Rattle.cql2_text.proofs.coordinates.ring.Goals as goal
use Rattle.cql2_text.proofs.coordinates.ring.Goals.{in_default-via-in-Some+else-is_same, in_default-via-in_default}

pub returns-in_err-vertices-clause-reads : goal.returns-in_err-vertices-clause-reads
returns-in_err-vertices-clause-reads g c =
    λ rest points is.
    let memory : c.in_err-vertices.field-0.0 ≡ Memory = c.in_err-vertices.ensures.reads _ _ is.positions in
    search rules

pub returns-then-len-lt-MIN_RING_POSITIONS-clause-reads : goal.returns-then-len-lt-MIN_RING_POSITIONS-clause-reads
returns-then-len-lt-MIN_RING_POSITIONS-clause-reads g c =
    λ rest points is.
    let read = c.in_ok-vertices.ensures.reads _ _ is.positions in
    let few : length c.in_ok-vertices.vertices.items < 4 = omega (arith, c.len.ensures, c.in_ok-vertices.vertices.ok.0, c.if-len-lt-MIN_RING_POSITIONS.true) in
    absurd (ring-some is c.in_ok-vertices.vertices.items read.1 few)

pub returns-in-Some-clause-reads : goal.returns-in-Some-clause-reads
returns-in-Some-clause-reads g c =
    λ rest points is.
    let read = c.in_ok-vertices.ensures.reads _ _ is.positions in
    (read.0, ring-points is c.in_ok-vertices.vertices.items c.pop.new.self.items c.in-Some.last c.in-Some.ensures.items read.1)

pub returns-clause-reads : goal.returns-clause-reads
returns-clause-reads g c =
    let some : 4 ≤ length c.in_ok-vertices.vertices.items =
    omega (arith, c.len.ensures, c.in_ok-vertices.vertices.ok.0, c.if-len-lt-MIN_RING_POSITIONS.false) in
    λ rest points is.
    let read = c.in_ok-vertices.ensures.reads _ _ is.positions in
    absurd
    (elim c.in_default.branch [
      | in_default-via-in-Some+else-is_same w ↦
          (let same = ring-closed is c.in_ok-vertices.vertices.items c.pop.new.self.items w.in-Some.last w.index.result.now
          w.in-Some.ensures.items read.1 w.index.ensures some in
          let no : IsTrue w.is_same.result = w.is_same.ensures.1 same in
          search rules)
      | in_default-via-in_default w ↦
          (let empty = rw w.in_default.is at c.pop.ensures.cases in
          omega (arith, empty.0, c.in_ok-vertices.vertices.ok.0, some))
    ])
