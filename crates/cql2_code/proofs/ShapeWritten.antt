-- The code of a shape, written back to front: one part before another, from the last part to the first.
use Rattle.std.proofs.Common.{◌≡◌, ℕ, zero, suc, ◌-◌, ◌<◌, List, [], ◌∷◌, ◌++◌, drop, length, refl, sym, ap, ◌∙◌, subst, arith}
use Rattle.std.specs.Prelude.{Err, IsErrAnd, Ok, Result, get_or}
use Rattle.std.specs.List.{flat_map}
use Rattle.std.proofs.lemmas.List.{append_assoc}
use Rattle.bpf_insn.specs.declared.instruction.Insn.{Insn}
use Rattle.cql2.specs.Geometry.{Edge, edge_of, edges_of_ring, edges_through}
use Rattle.cql2.specs.declared.geometry.Polygon.{Polygon}
use Rattle.cql2.specs.declared.geometry.Vertex.{Vertex}
use Rattle.cql2_code.specs.Layout.{IsPrepended, IsTooLong, MayBeRefused}
use Rattle.cql2_code.specs.ShapeCode.{inside_code, polygon_code, polygon_edge_code, ring_code}
use Rattle.cql2_code.specs.declared.fault.CompileFault.{CompileFault}
use Rattle.cql2_code.proofs.Refused.{longer}

-- a call is refused if a call that it makes is, whose code ends its own
pub part_refused : {T : Type 0} {fault : CompileFault} (front : List Insn) {part all : List Insn} (result : Result T CompileFault) (new : List Insn)
    → all ≡ front ++ part → IsErrAnd result (λ same. same ≡ fault) → MayBeRefused part fault → IsPrepended result all new
part_refused front (Err same) new is refused may = record {
  too_long = λ long. subst IsTooLong (sym is) (longer front (may.too_long (sym refused ∙ long)));
}
part_refused front (Ok none) new is refused may = absurd refused

-- parts of a list, from its last to its first

flat_map_both : {T : Type 0} (code : T → List Insn) (a b : List T) → flat_map code (a ++ b) ≡ flat_map code a ++ flat_map code b
flat_map_both code [] b = refl
flat_map_both code (part ∷ a) b =
    ap (λ (rest : List Insn). code part ++ rest) (flat_map_both code a b) ∙ sym (append_assoc (code part) (flat_map code a) (flat_map code b))

pub four_written : {T : Type 0} (code : T → List Insn) (a b c d : T) (old : List Insn)
    → flat_map code (a ∷ b ∷ c ∷ d ∷ []) ++ old ≡ code a ++ (code b ++ (code c ++ (code d ++ old)))
four_written {T} code a b c d old =
    append_assoc (code a) (flat_map code (b ∷ c ∷ d ∷ [])) old
    ∙ ap (λ (rest : List Insn). code a ++ rest) (append_assoc (code b) (flat_map code (c ∷ d ∷ [])) old
    ∙ ap (λ (rest : List Insn). code b ++ rest) (append_assoc (code c) (flat_map code (d ∷ [])) old
    ∙ ap (λ (rest : List Insn). code c ++ rest) (append_assoc (code d) [] old)))

-- a part is refused, after which the code of those that are done was written
-- The code of the parts after one is written.
pub record IsWrittenAfter {T : Type 0} (code : T → List Insn) (parts : List T) (part : T) (old new : List Insn) : Type 0 where
  pub before : List T
  pub others : List T
  pub done : List T
  pub all : parts ≡ before ++ done
  pub last : before ≡ others ++ part ∷ []
  pub written : new ≡ flat_map code done ++ old

pub before_refused : {T X : Type 0} (code : T → List Insn) {parts : List T} (part : T) (old new : List Insn) {fault : CompileFault}
    (result : Result X CompileFault) (other : List Insn) → IsWrittenAfter code parts part old new → IsErrAnd result (λ same. same ≡ fault)
    → MayBeRefused (code part ++ new) fault → IsPrepended result (flat_map code parts ++ old) other
before_refused {T} code part old new result other after =
    let others = after.others in
    let done = after.done in
    part_refused (flat_map code others) result other
    (ap (λ (list : List T). flat_map code list ++ old)
    (after.all ∙ ap (λ (list : List T). list ++ done) after.last ∙ append_assoc others (part ∷ []) done)
    ∙ ap (λ (list : List Insn). list ++ old) (flat_map_both code others (part ∷ done))
    ∙ append_assoc (flat_map code others) (code part ++ flat_map code done) old
    ∙ ap (λ (rest : List Insn). flat_map code others ++ rest) (append_assoc (code part) (flat_map code done) old)
    ∙ ap (λ (rest : List Insn). flat_map code others ++ (code part ++ rest)) (sym after.written))

-- edges through vertices, from the last to the first

edges_at : (vertices : List Vertex) (k : ℕ) (start end : Vertex) → suc k < length vertices → start ≡ get_or vertices k start
    → end ≡ get_or vertices (suc k) end → edges_through (drop k vertices) ≡ edge_of start end ∷ edges_through (drop (suc k) vertices)
edges_at [] k start end inside first second = absurd (omega arith)
edges_at (vertex ∷ []) k start end inside first second = absurd (omega arith)
edges_at (vertex ∷ next ∷ vertices) zero start end inside first second =
    ap (λ (v : Vertex). edge_of v next ∷ edges_through (next ∷ vertices)) (sym first)
    ∙ ap (λ (v : Vertex). edge_of start v ∷ edges_through (next ∷ vertices)) (sym second)
edges_at (vertex ∷ next ∷ vertices) (suc k) start end inside first second = edges_at (next ∷ vertices) k start end (omega arith) first second

abbrev edges_before : ℕ → List Vertex → List Edge
edges_before zero vertices = []
edges_before (suc k) [] = []
edges_before (suc k) (vertex ∷ []) = []
edges_before (suc k) (vertex ∷ next ∷ vertices) = edge_of vertex next ∷ edges_before k (next ∷ vertices)

edges_after : (k : ℕ) (vertices : List Vertex) → edges_through vertices ≡ edges_before k vertices ++ edges_through (drop k vertices)
edges_after zero vertices = refl
edges_after (suc k) [] = refl
edges_after (suc zero) (vertex ∷ []) = refl
edges_after (suc (suc k)) (vertex ∷ []) = refl
edges_after (suc k) (vertex ∷ next ∷ vertices) = ap (λ (edges : List Edge). edge_of vertex next ∷ edges) (edges_after k (next ∷ vertices))

pub edges_none : (vertices : List Vertex) → edges_through (drop (length vertices - 1) vertices) ≡ []
edges_none [] = refl
edges_none (vertex ∷ []) = refl
edges_none (vertex ∷ next ∷ vertices) =
    let more : length (vertex ∷ next ∷ vertices) - 1 ≡ suc (length (next ∷ vertices) - 1) = omega arith in rw more (edges_none (next ∷ vertices))

pub edges_last : (vertices : List Vertex) (next : ℕ) (start end : Vertex) → 0 < next → next < length vertices
    → start ≡ get_or vertices (next - 1) start → end ≡ get_or vertices next end
    → edges_through (drop (next - 1) vertices) ≡ edge_of start end ∷ edges_through (drop next vertices)
edges_last vertices next start end some inside first second =
    let same : next ≡ suc (next - 1) = omega arith in
    edges_at vertices (next - 1) start end (omega arith) first (second ∙ ap (λ (n : ℕ). get_or vertices n end) same)
    ∙ ap (λ (n : ℕ). edge_of start end ∷ edges_through (drop n vertices)) (sym same)

module _ (code : Edge → List Insn) (vertices : List Vertex) (next : ℕ) (edge : Edge) (old new : List Insn)
    (is : edges_through (drop (next - 1) vertices) ≡ edge ∷ edges_through (drop next vertices))
    (written : new ≡ flat_map code (edges_through (drop next vertices)) ++ old) where
  -- the edge to a vertex is written, or refused, after the code of those from there on was written
  pub edges_written : code edge ++ new ≡ flat_map code (edges_through (drop (next - 1) vertices)) ++ old
  edges_written =
      ap (λ (rest : List Insn). code edge ++ rest) written
      ∙ sym (append_assoc (code edge) (flat_map code (edges_through (drop next vertices))) old)
      ∙ ap (λ (edges : List Edge). flat_map code edges ++ old) (sym is)

  pub edges_refused : {X : Type 0} {fault : CompileFault} (result : Result X CompileFault) (other : List Insn)
      → IsErrAnd result (λ same. same ≡ fault) → MayBeRefused (code edge ++ new) fault
      → IsPrepended result (flat_map code (edges_through vertices) ++ old) other
  edges_refused result other =
      let others = edges_before (next - 1) vertices in
      let rest = edges_through (drop next vertices) in
      before_refused code edge old new result other (record {
        before = others ++ edge ∷ [];
        others = others;
        done = rest;
        all = edges_after (next - 1) vertices ∙ ap (λ (edges : List Edge). others ++ edges) is ∙ sym (append_assoc others (edge ∷ []) rest);
        last = refl;
        written = written;
      })

-- the edge that closes a ring

closed_by : (first vertex : Vertex) (vertices : List Vertex) (last : Vertex)
    → last ≡ get_or (vertex ∷ vertices) (length (vertex ∷ vertices) - 1) last
    → edges_through (vertex ∷ (vertices ++ first ∷ [])) ≡ edges_through (vertex ∷ vertices) ++ edge_of last first ∷ []
closed_by first vertex [] last is = ap (λ (v : Vertex). edge_of v first ∷ []) (sym is)
closed_by first vertex (next ∷ vertices) last is =
    let more : length (vertex ∷ next ∷ vertices) - 1 ≡ suc (length (next ∷ vertices) - 1) = omega arith in
    ap (λ (edges : List Edge). edge_of vertex next ∷ edges)
    (closed_by first next vertices last (is ∙ ap (λ (n : ℕ). get_or (vertex ∷ next ∷ vertices) n last) more))

pub ring_closed : (vertices : List Vertex) (last first : Vertex) → 0 < length vertices → last ≡ get_or vertices (length vertices - 1) last
    → first ≡ get_or vertices 0 first → edges_of_ring vertices ≡ edges_through vertices ++ edge_of last first ∷ []
ring_closed [] last first some is begins = absurd (omega arith)
ring_closed (vertex ∷ vertices) last first some is begins =
    closed_by vertex vertex vertices last is
    ∙ ap (λ (v : Vertex). edges_through (vertex ∷ vertices) ++ edge_of last v ∷ []) (sym begins)

pub ring_written : (code : Edge → List Insn) (ring edges : List Edge) (edge : Edge) (old : List Insn) → ring ≡ edges ++ edge ∷ []
    → flat_map code ring ++ old ≡ flat_map code edges ++ (code edge ++ old)
ring_written code ring edges edge old is =
    ap (λ (ring : List Edge). flat_map code ring ++ old) is
    ∙ ap (λ (list : List Insn). list ++ old) (flat_map_both code edges (edge ∷ []))
    ∙ append_assoc (flat_map code edges) (code edge ++ []) old
    ∙ ap (λ (rest : List Insn). flat_map code edges ++ rest) (append_assoc (code edge) [] old)

-- the code of one list's parts after another's is that of both lists' parts
pub rings_joined : {T : Type 0} (code : Edge → List Insn) (edges : T → List Edge) (parts : List T)
    → flat_map code (flat_map edges parts) ≡ flat_map (λ part. flat_map code (edges part)) parts
rings_joined code edges [] = refl
rings_joined code edges (part ∷ parts) =
    flat_map_both code (edges part) (flat_map edges parts)
    ∙ ap (λ (rest : List Insn). flat_map code (edges part) ++ rest) (rings_joined code edges parts)

pub polygon_written : {A : Type 0} (polygon : Polygon A) (old : List Insn)
    → polygon_code polygon ++ old ≡ flat_map ring_code polygon.rings.items ++ (inside_code ++ old)
polygon_written polygon old =
    ap (λ (code : List Insn). (code ++ inside_code) ++ old) (rings_joined polygon_edge_code (λ ring. edges_of_ring ring.vertices.items) polygon.rings.items)
    ∙ append_assoc (flat_map ring_code polygon.rings.items) inside_code old
