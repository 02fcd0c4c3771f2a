-- Runs of a table: after each step, every open job is the result of its own submission and its own turns.
use Rattle.std.proofs.Common.{◌≡◌, ◌≢◌, ℕ, zero, suc, ◌+◌, ◌*◌, ◌<◌, ◌≤◌, nat_eq, inl, inr, List, [], ◌∷◌, ◌++◌, length, take, min, Some}
use Rattle.std.proofs.Common.{None, refl, sym, ap, ◌∙◌, subst, append_assoc, arith}
use Rattle.std.specs.List.{cons_option, range_with_len}
use Rattle.std.proofs.lemmas.Bool.Decides.{nat_tests}
use Rattle.std.proofs.lemmas.List.{append-nil}
use Rattle.std.proofs.lemmas.List.Elements.{filter_map-append}
use Rattle.bpf_insn.specs.Code.{IsCodeOf}
use Rattle.bpf_insn.specs.declared.instruction.Insn.{Insn}
use Rattle.bpf_insn.proofs.CodeLemmas.{one_code}
use Rattle.bpf_meaning.proofs.ExtractLemmas.{one_extract_lem}
use Rattle.bpf_meaning.specs.Extract.{IsExtract, row_of}
use Rattle.bpf_program.specs.Program.{IsSafeProgram}
use Rattle.tl_segments.specs.County.{CountyParts}
use Rattle.jobs.specs.Run.{Exchange, IsOwn, IsRun, assigned_id, assigned_ids, program_of, programs_of, turn_count, turns_of}
use Rattle.jobs.specs.Segments.{Advances, segments_of}
use Rattle.jobs.specs.Table.{JobParts, Step, Table, empty_table, job_of, new_job, without_job}
use Rattle.jobs.specs.declared.event.Event.{Event}
use Rattle.jobs.specs.declared.event.Event.TheVariants.{Submit, Turn, Fetch, Drop}
use Rattle.jobs.specs.declared.event.Reply.{Reply}
use Rattle.jobs.specs.declared.event.Reply.TheVariants.{Submitted, Turned, Rows, Dropped, Refused}
use Rattle.jobs.specs.declared.fault.JobFault.TheVariants.{Full, NoJob, Program, Memory}
use Rattle.jobs.specs.declared.turn.TheConstants.{SEGMENTS_PER_TURN}
use Rattle.jobs.specs.Inside.{Ascend}
use Rattle.jobs.proofs.MapLemmas.{Ascend-push, Ascend-remove, Ascend-set, found_changed, found_pushed, found_removed, found_within}
use Rattle.jobs.proofs.SegmentLemmas.{extract_turned}

-- The invariant of a table after the exchanges of a run so far.
pub record IsSoFar (counties : List CountyParts) (past : List Exchange) (table : Table) : Type 0 where
  pub over : table.counties ≡ counties
  pub ids : assigned_ids past ≡ range_with_len 1 table.last_id
  pub ascend : Ascend 0 table.jobs table.last_id
  pub fresh : (id : ℕ) → table.last_id < id → (programs_of id past ≡ []) × (turns_of id past ≡ 0)
  pub own : (id : ℕ) (job : JobParts) → job_of table id ≡ Some job → IsOwn counties past id job

pub nothing_so_far : (counties : List CountyParts) → IsSoFar counties [] (empty_table counties)
nothing_so_far counties = record {
  over = refl;
  ids = refl;
  ascend = tt;
  fresh = λ id above. (refl, refl);
  own = λ id job found. cc;
}

-- one more exchange

abbrev pub exchange_of : Event → Reply → Exchange
exchange_of event reply = record { event = event; reply = reply }

ids-more : (past : List Exchange) (event : Event) (reply : Reply)
    → assigned_ids (past ++ exchange_of event reply ∷ []) ≡ assigned_ids past ++ cons_option (assigned_id event reply) []
ids-more past event reply = filter_map-append (λ exchange. assigned_id exchange.event exchange.reply) past (exchange_of event reply ∷ [])

programs-more : (id : ℕ) (past : List Exchange) (event : Event) (reply : Reply)
    → programs_of id (past ++ exchange_of event reply ∷ []) ≡ programs_of id past ++ cons_option (program_of id event reply) []
programs-more id past event reply = filter_map-append (λ exchange. program_of id exchange.event exchange.reply) past
    (exchange_of event reply ∷ [])

turns-more : (id : ℕ) (past : List Exchange) (event : Event) (reply : Reply)
    → turns_of id (past ++ exchange_of event reply ∷ []) ≡ turns_of id past + turn_count id event reply
turns-more id [] event reply = omega arith
turns-more id (first ∷ past) event reply = let others = turns-more id past event reply in omega arith

programs-unchanged : (id : ℕ) (past : List Exchange) (event : Event) (reply : Reply) → program_of id event reply ≡ None
    → programs_of id (past ++ exchange_of event reply ∷ []) ≡ programs_of id past
programs-unchanged id past event reply none =
    programs-more id past event reply ∙ ap (λ program. programs_of id past ++ cons_option program []) none
    ∙ append-nil (programs_of id past)

turns-unchanged : (id : ℕ) (past : List Exchange) (event : Event) (reply : Reply) → turn_count id event reply ≡ 0
    → turns_of id (past ++ exchange_of event reply ∷ []) ≡ turns_of id past
turns-unchanged id past event reply none = turns-more id past event reply ∙ ap (λ n. turns_of id past + n) none ∙ (omega arith)

range-push : (from count : ℕ) → range_with_len from (count + 1) ≡ range_with_len from count ++ (from + count) ∷ []
range-push from zero = ap (λ n. n ∷ []) {x = from} {y = from + 0} (omega arith)
range-push from (suc count) =
    ap (λ n. range_with_len from n) {x = suc count + 1} {y = suc (count + 1)} (omega arith)
    ∙ ap (λ (ns : List ℕ). from ∷ ns) (range-push (from + 1) count
    ∙ ap (λ n. range_with_len (from + 1) count ++ n ∷ []) {x = from + 1 + count} {y = from + suc count} (omega arith))

module _ (counties : List CountyParts) (past : List Exchange) (event : Event) (reply : Reply) where
  -- a job, if the exchange isn't about it
  own_unchanged : (id : ℕ) (job : JobParts) → program_of id event reply ≡ None → turn_count id event reply ≡ 0 → IsOwn counties past id job
      → IsOwn counties (past ++ exchange_of event reply ∷ []) id job
  own_unchanged id job no_program no_turn own = record {
    program = own.program;
    submitted = programs-unchanged id past event reply no_program ∙ own.submitted;
    accepted = own.accepted;
    done = own.done ∙ ap (λ turns. min (length (segments_of counties)) (SEGMENTS_PER_TURN * turns))
        (sym (turns-unchanged id past event reply no_turn));
    chosen = own.chosen;
    rows = own.rows;
  }

  -- a job, if the exchange is a turn of it
  own_turned : (id : ℕ) (old new : JobParts) → program_of id event reply ≡ None → turn_count id event reply ≡ 1 → new.code ≡ old.code
      → Advances old.code (segments_of counties) old.done old.rows new.done new.rows → IsOwn counties past id old
      → IsOwn counties (past ++ exchange_of event reply ∷ []) id new
  own_turned id old new no_program turn code advances own = record {
    program = own.program;
    submitted = programs-unchanged id past event reply no_program ∙ own.submitted;
    accepted = subst (λ code. IsSafeProgram own.program code) (sym code) own.accepted;
    done =
        let before = own.done in
        let now = advances.moved in
        let turns = turns-more id past event reply ∙ ap (λ n. turns_of id past + n) turn in
        grind (arith, before, now, turns);
    chosen = own.chosen + advances.chosen;
    rows = subst (λ code. IsExtract code (take new.done (segments_of counties)) new.rows (own.chosen + advances.chosen)) (sym code)
        (extract_turned own.chosen own.rows advances);
  }

  -- a job, if the exchange is its submission
  own_new : (id : ℕ) (program : List ℕ) (code : List Insn) → program_of id event reply ≡ Some program → turn_count id event reply ≡ 0
      → programs_of id past ≡ [] → turns_of id past ≡ 0 → IsSafeProgram program code
      → IsOwn counties (past ++ exchange_of event reply ∷ []) id (new_job code)
  own_new id program code is_program no_turn none no_turns safe = record {
    program = program;
    submitted = programs-more id past event reply ∙ ap (λ program. programs_of id past ++ cons_option program []) is_program
        ∙ ap (λ programs. programs ++ program ∷ []) none;
    accepted = safe;
    done = let turns = turns-unchanged id past event reply no_turn ∙ no_turns in grind (arith, turns);
    chosen = 0;
    rows = (refl, refl);
  }

  -- an exchange that assigns no id and advances no job, and after which each open job was there before
  module _ (old new : Table) (so_far : IsSoFar counties past old) where
    pub nothing_assigned : assigned_id event reply ≡ None → ((id : ℕ) → program_of id event reply ≡ None)
        → ((id : ℕ) → turn_count id event reply ≡ 0) → new.counties ≡ old.counties → new.last_id ≡ old.last_id
        → Ascend 0 new.jobs old.last_id → ((id : ℕ) (job : JobParts) → job_of new id ≡ Some job → job_of old id ≡ Some job)
        → IsSoFar counties (past ++ exchange_of event reply ∷ []) new
    nothing_assigned no_id no_program no_turn same last ascend there = record {
      over = same ∙ so_far.over;
      ids = ids-more past event reply ∙ ap (λ id. assigned_ids past ++ cons_option id []) no_id ∙ append-nil (assigned_ids past) ∙ so_far.ids
          ∙ ap (λ n. range_with_len 1 n) (sym last);
      ascend = subst (λ high. Ascend 0 new.jobs high) (sym last) ascend;
      fresh = λ id above.
          let before = so_far.fresh id (omega (arith, last)) in
          (programs-unchanged id past event reply (no_program id) ∙ before.0, turns-unchanged id past event reply (no_turn id) ∙ before.1);
      own = λ id job found. own_unchanged id job (no_program id) (no_turn id) (so_far.own id job (there id job found));
    }

-- an exchange that changes nothing
module _ {counties : List CountyParts} {past : List Exchange} (event : Event) (reply : Reply) {old new : Table} where
  unchanged : IsSoFar counties past old → assigned_id event reply ≡ None → ((id : ℕ) → program_of id event reply ≡ None)
      → ((id : ℕ) → turn_count id event reply ≡ 0) → new ≡ old → IsSoFar counties (past ++ exchange_of event reply ∷ []) new
  unchanged so_far no_id no_program no_turn same =
      subst (λ table. IsSoFar counties (past ++ exchange_of event reply ∷ []) table) (sym same)
      (nothing_assigned counties past event reply old old so_far no_id no_program no_turn refl refl so_far.ascend (λ id job found. found))

-- one more step
step_more : (counties : List CountyParts) (past : List Exchange) (event : Event) (reply : Reply) (old new : Table)
    → IsSoFar counties past old → Step old event reply new → IsSoFar counties (past ++ exchange_of event reply ∷ []) new
step_more counties past (Submit program) (Submitted id) old new so_far (room, next, code, safe, is) =
    subst (λ table. IsSoFar counties (past ++ exchange_of (Submit program) (Submitted id) ∷ []) table) (sym is) (record {
      over = so_far.over;
      ids = ids-more past (Submit program) (Submitted id) ∙ ap (λ ids. ids ++ id ∷ []) so_far.ids
          ∙ ap (λ id. range_with_len 1 old.last_id ++ id ∷ []) (next ∙ (omega arith)) ∙ sym (range-push 1 old.last_id)
          ∙ ap (λ n. range_with_len 1 n) (sym next);
      ascend = Ascend-push 0 old.jobs old.last_id id (new_job code) (omega (arith, next)) (omega (arith, next)) so_far.ascend;
      fresh = λ q above.
          let before = so_far.fresh q (omega (arith, next)) in (
            programs-unchanged q past (Submit program) (Submitted id) (other_program q (omega arith)) ∙ before.0,
            turns-unchanged q past (Submit program) (Submitted id) refl ∙ before.1,
          );
      own = λ q job found. elim (found_pushed old.jobs id (new_job code) q job found) [
        | inl there ↦ other_job q job there (found_within 0 old.jobs old.last_id q job so_far.ascend there)
        | inr (same, is) ↦ first q job same is
      ];
    })
  where
    other_program : (q : ℕ) → id < q → program_of q (Submit program) (Submitted id) ≡ None
    other_program q above = grind (arith, nat_tests)

    other_program' : (q : ℕ) → q < id → program_of q (Submit program) (Submitted id) ≡ None
    other_program' q above = grind (arith, nat_tests)

    this_program : program_of id (Submit program) (Submitted id) ≡ Some program.now
    this_program = grind (arith, nat_tests)

    other_job : (q : ℕ) (job : JobParts) → job_of old q ≡ Some job → (0 < q) × (q ≤ old.last_id)
        → IsOwn counties (past ++ exchange_of (Submit program) (Submitted id) ∷ []) q job
    other_job q job there within = own_unchanged counties past (Submit program) (Submitted id) q job
        (other_program' q (let below = within.1 in omega (arith, next))) refl (so_far.own q job there)

    first : (q : ℕ) (job : JobParts) → q ≡ id → job ≡ new_job code
        → IsOwn counties (past ++ exchange_of (Submit program) (Submitted id) ∷ []) q job
    first q job same is =
        let before = so_far.fresh id (omega (arith, next)) in
        rw (same, is) (own_new counties past (Submit program) (Submitted id) id program.now code this_program refl before.0 before.1 safe)
step_more counties past (Submit program) (Refused Full) old new so_far step = unchanged _ _ so_far refl (λ id. refl) (λ id. refl) step.1
step_more counties past (Submit program) (Refused (Program fault)) old new so_far step =
    unchanged _ _ so_far refl (λ id. refl) (λ id. refl) step.3
step_more counties past (Submit program) (Refused Memory) old new so_far step = unchanged _ _ so_far refl (λ id. refl) (λ id. refl) step.1
step_more counties past (Turn id) (Turned done total) old new so_far (job, there, job', turned, is, done_is, total_is) =
    subst (λ table. IsSoFar counties (past ++ exchange_of (Turn id) (Turned done total) ∷ []) table) (sym is) (record {
      over = so_far.over;
      ids = ids-more past (Turn id) (Turned done total) ∙ append-nil (assigned_ids past) ∙ so_far.ids;
      ascend = Ascend-set (nat_eq id) 0 old.jobs old.last_id job' so_far.ascend;
      fresh = λ q above.
          let before = so_far.fresh q above in
          let within = found_within 0 old.jobs old.last_id id job so_far.ascend there in (
            programs-unchanged q past (Turn id) (Turned done total) refl ∙ before.0,
            turns-unchanged q past (Turn id) (Turned done total) (other_turn q (let below = within.1 in omega arith)) ∙ before.1,
          );
      own = λ q found_job found. elim (found_changed old.jobs id job job' q found_job there found) [
        | inl (other, there) ↦ own_unchanged counties past (Turn id) (Turned done total) q found_job refl (no_turn q other)
            (so_far.own q found_job there)
        | inr (same, is) ↦ moved q found_job same is
      ];
    })
  where
    other_turn : (q : ℕ) → id < q → turn_count q (Turn id) (Turned done total) ≡ 0
    other_turn q above = grind (arith, nat_tests)

    no_turn : (q : ℕ) → q ≢ id → turn_count q (Turn id) (Turned done total) ≡ 0
    no_turn q other = grind (arith, nat_tests)

    this_turn : turn_count id (Turn id) (Turned done total) ≡ 1
    this_turn = grind (arith, nat_tests)

    moved : (q : ℕ) (found_job : JobParts) → q ≡ id → found_job ≡ job'
        → IsOwn counties (past ++ exchange_of (Turn id) (Turned done total) ∷ []) q found_job
    moved q found_job same is =
        rw (same, is) (own_turned counties past (Turn id) (Turned done total) id job job' refl this_turn turned.code
        (subst (λ (counties : List CountyParts). Advances job.code (segments_of counties) job.done job.rows job'.done job'.rows) so_far.over
        turned.advances) (so_far.own id job there))
step_more counties past (Turn id) (Refused NoJob) old new so_far step = unchanged _ _ so_far refl (λ id. refl) (λ id. refl) step.1
step_more counties past (Turn id) (Refused Memory) old new so_far step = unchanged _ _ so_far refl (λ id. refl) (λ id. refl) step.3
step_more counties past (Fetch id) (Rows done total rows) old new so_far step = unchanged _ _ so_far refl (λ id. refl) (λ id. refl) step.5
step_more counties past (Fetch id) (Refused NoJob) old new so_far step = unchanged _ _ so_far refl (λ id. refl) (λ id. refl) step.1
step_more counties past (Drop id) Dropped old new so_far (there, is) =
    subst (λ table. IsSoFar counties (past ++ exchange_of (Drop id) Dropped ∷ []) table) (sym is)
    (nothing_assigned counties past (Drop id) Dropped old (without_job old id) so_far refl (λ id. refl) (λ id. refl) refl refl
    (Ascend-remove (nat_eq id) 0 old.jobs old.last_id so_far.ascend)
    (λ q job found. found_removed old.jobs old.last_id id q job so_far.ascend found))
step_more counties past (Drop id) (Refused NoJob) old new so_far step = unchanged _ _ so_far refl (λ id. refl) (λ id. refl) step.1
-- there are no other replies
step_more counties past event reply old new so_far none = absurd none

-- the rest of a run
run_more : (counties : List CountyParts) (past exchanges : List Exchange) (old new : Table) → IsSoFar counties past old
    → IsRun old exchanges new → IsSoFar counties (past ++ exchanges) new
run_more counties past [] old new so_far same =
    rw (append-nil past) (subst (λ table. IsSoFar counties past table) (sym same) so_far)
run_more counties past (exchange ∷ exchanges) old new so_far (now, step, run) =
    subst (λ all. IsSoFar counties all new) (append_assoc past (exchange ∷ []) exchanges)
    (run_more counties (past ++ exchange ∷ []) exchanges now new
    (step_more counties past exchange.event exchange.reply old now so_far step) run)

-- a complete run, from a table with no jobs
pub whole_run : (counties : List CountyParts) (exchanges : List Exchange) (table : Table) → IsRun (empty_table counties) exchanges table
    → IsSoFar counties exchanges table
whole_run counties exchanges table run = run_more counties [] exchanges (empty_table counties) table (nothing_so_far counties) run

-- jobs with the same program and the same number of turns are equal
pub own_alike : {counties : List CountyParts} {exchanges others : List Exchange} {id other_id : ℕ} {job other : JobParts}
    → programs_of id exchanges ≡ programs_of other_id others → turns_of id exchanges ≡ turns_of other_id others
    → IsOwn counties exchanges id job → IsOwn counties others other_id other → job ≡ other
own_alike {counties} {job} {other} programs turns own also =
    let segments = segments_of counties in
    let program = same_first own.program also.program (sym own.submitted ∙ programs ∙ also.submitted) in
    let is_code = subst (λ program. IsCodeOf program job.code) program own.accepted.is_code in
    let code : job.code ≡ other.code = one_code job.code other.code (sym is_code.words ∙ also.accepted.is_code.words) in
    let done : job.done ≡ other.done = own.done ∙ ap (λ turns. min (length segments) (SEGMENTS_PER_TURN * turns)) turns ∙ sym also.done in
    let extract = subst (λ code. IsExtract code (take job.done segments) job.rows own.chosen) code (own.rows) in
    let extract' = subst (λ done. IsExtract other.code (take done segments) job.rows own.chosen) done extract in
    let rows = (one_extract_lem row_of other.code (take other.done segments) job.rows other.rows own.chosen also.chosen extract' also.rows).0 in
    ap (λ code. record { code = code; done = job.done; rows = job.rows }) code
    ∙ ap (λ done. record { code = other.code; done = done; rows = job.rows }) done
    ∙ ap (λ rows. record { code = other.code; done = other.done; rows = rows }) rows
  where
    same_first : (program other : List ℕ) → program ∷ [] ≡ other ∷ [] → program ≡ other
    same_first program other is = cc

-- a step after a run
pub run_push : (old now new : Table) (exchanges : List Exchange) (event : Event) (reply : Reply) → IsRun old exchanges now
    → Step now event reply new → IsRun old (exchanges ++ exchange_of event reply ∷ []) new
run_push old now new [] event reply same step =
    (new, subst (λ table. Step table event reply new) same step, refl)
run_push old now new (exchange ∷ exchanges) event reply (next, first, run) step =
    (next, first, run_push next now new exchanges event reply run step)
