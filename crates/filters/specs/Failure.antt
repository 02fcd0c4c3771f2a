-- Why a filter has no program: its refusal, and what is reported of it.
use Rattle.std.specs.Prelude.{◌≡◌, ◌≢◌, ℕ, List, [], ◌∷◌, ◌++◌, codes}
use Rattle.std.specs.declared.alloc.Global.{Global}
use Rattle.cql2_code.specs.CompileFault as compile_fault
use Rattle.cql2_code.specs.declared.fault.CompileFault.{CompileFault}
use Rattle.cql2_code.specs.declared.fault.CompileFault.TheVariants as compile
use Rattle.cql2_json.specs.declared.fault.JsonFault.{JsonFault}
use Rattle.cql2_json.specs.declared.fault.JsonFault.TheVariants as json
use Rattle.cql2_json.specs.declared.fault.JsonFlaw.{JsonFlaw}
use Rattle.cql2_json.specs.declared.fault.JsonFlaw.TheVariants as json_fault
use Rattle.cql2_json.specs.declared.fault.ValueFlaw.{ValueFlaw}
use Rattle.cql2_json.specs.declared.fault.ValueFlaw.TheVariants as value
use Rattle.cql2_text.specs.FilterFault as filter_fault
use Rattle.cql2_text.specs.FilterFaultKind as filter_flaw
use Rattle.cql2_text.specs.declared.fault.Construct.TheVariants as construct
use Rattle.cql2_text.specs.declared.fault.FilterFault.{FilterFault}
use Rattle.cql2_text.specs.declared.fault.FilterFault.TheVariants as filter
use Rattle.cql2_text.specs.declared.fault.FilterFaultKind.{FilterFaultKind}
use Rattle.cql2_text.specs.declared.fault.FilterFaultKind.TheVariants as flaw
use Rattle.refusals.specs.Refusal.{RefusalParts, line, memory, number_text}
use Rattle.filters.specs.declared.failure.FilterFailure.{FilterFailure}
use Rattle.filters.specs.declared.failure.FilterFailure.TheVariants.{Noted, Pointed, Memory}

-- the refusal of a failure; that of a flaw at a value of JSON has no position, since its text has a pointer
abbrev pub refusal_of : FilterFailure → RefusalParts
refusal_of (Noted refused note) = refused
refusal_of (Pointed flaw pointer note) = filter_flaw.refusal flaw
refusal_of Memory = memory

-- the line of a refusal that has no position, with the JSON pointer to a value in its place; the pointer to the whole JSON, which is empty, is left out
abbrev pub pointed_line : List ℕ → RefusalParts → List ℕ
pointed_line [] refused = line refused
pointed_line pointer refused = codes "refused " ++ number_text refused.number ++ codes "pointer " ++ pointer ++ codes " " ++ refused.name

-- a line, and a note on a second one
abbrev pub noted_text : List ℕ → List ℕ → List ℕ
noted_text first note = first ++ 10 ∷ note ++ 10 ∷ []

-- what is reported of a failure
abbrev pub failure_text : FilterFailure → List ℕ
failure_text (Noted refused note) = noted_text (line refused) note.bytes
failure_text (Pointed flaw pointer note) = noted_text (pointed_line pointer.items (filter_flaw.refusal flaw)) note.bytes
failure_text Memory = line memory ++ 10 ∷ []

-- why a text is not a filter, and why a filter can't be compiled
abbrev pub IsOfFilter : FilterFault → FilterFailure → Type 0
IsOfFilter fault (Noted refused note) = (fault ≢ filter.Memory) × (refused ≡ filter_fault.refusal fault)
IsOfFilter fault Memory = fault ≡ filter.Memory
IsOfFilter fault failure = ⊥

abbrev pub IsOfCompile : CompileFault → FilterFailure → Type 0
IsOfCompile fault (Noted refused note) = (fault ≡ compile.TooLong) × (refused ≡ compile_fault.refusal fault)
IsOfCompile fault Memory = fault ≡ compile.Memory
IsOfCompile fault failure = ⊥

-- The flaw of a filter whose text isn't JSON, and of one whose JSON has a value without a text. Neither refusal says what is expected.
abbrev pub json_flaw : JsonFlaw → FilterFaultKind
json_flaw json_fault.Utf8 = flaw.Syntax construct.Utf8
json_flaw json_fault.Syntax = flaw.Syntax construct.Predicate
json_flaw json_fault.TooLong = flaw.TooLong

abbrev pub value_flaw : ValueFlaw → FilterFaultKind
value_flaw (value.Expected needs) = flaw.Syntax construct.Predicate
value_flaw value.TooLong = flaw.TooLong

-- why JSON has no text
abbrev pub IsOfJson : JsonFault Global → FilterFailure → Type 0
IsOfJson (json.Json line column of) (Noted refused note) = refused ≡ filter_fault.refusal (filter.At line column (json_flaw of))
IsOfJson (json.Value pointer of) (Pointed kind to note) = (kind ≡ value_flaw of) × (to ≡ pointer)
IsOfJson fault Memory = fault ≡ json.Memory
IsOfJson fault failure = ⊥

-- why the program of a filter in JSON can't be made: the pointer is that of the whole filter
abbrev pub IsOfJsonProgram : CompileFault → FilterFailure → Type 0
IsOfJsonProgram fault (Pointed kind pointer note) = (fault ≡ compile.TooLong) × (kind ≡ flaw.TooLong) × (pointer.items ≡ [])
IsOfJsonProgram fault Memory = fault ≡ compile.Memory
IsOfJsonProgram fault failure = ⊥
