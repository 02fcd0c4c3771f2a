-- The refusal of a code's flow.
use Rattle.std.specs.Prelude.{codes}
use Rattle.refusals.specs.Refusal.{RefusalParts, at_place, refused}
use Rattle.bpf_flow.specs.declared.fault.FlowFault.{FlowFault}
use Rattle.bpf_flow.specs.declared.fault.FlowFault.TheVariants.{BackwardJump, OutOfProgram, IntoWide, LastNotExit}

abbrev pub refusal : FlowFault → RefusalParts
refusal (BackwardJump place) = at_place place (refused 30 (codes "BackwardJump"))
refusal (OutOfProgram place) = at_place place (refused 31 (codes "OutOfProgram"))
refusal (IntoWide place) = at_place place (refused 32 (codes "IntoWide"))
refusal (LastNotExit place) = at_place place (refused 33 (codes "LastNotExit"))
