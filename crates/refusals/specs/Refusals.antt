-- What the code's refusals stand for in the definitions.
-- Assumes nothing.
use Rattle.lists.specs.Refusal as refusal
use Rattle.refusals.specs.declared.Refusal.{Refusal}
use Rattle.refusals.specs.declared.Refusal.TheVariants.{TargetShort, TextLong, LineBad, KeyBad, ArgumentBad, OperatorBad, ValueBad, ContentBad, PairExtra, CommaMissing, RuleExtra}
use Rattle.refusals.specs.declared.Refusal.TheVariants.{LabelMissing, LineOpen, FileTwice, DeviceBad, OutcomeBad, TooNew, SheetBad, SetBad}
use Rattle.refusals.specs.declared.Refusal.TheVariants.{SubstitutionLong, LinkBad, ListFull, OwnerBad, ModeBad, CommandMissing, ModeShared}

abbrev pub refusal_of : Refusal → refusal.Refusal
refusal_of TargetShort = refusal.target_short
refusal_of TextLong = refusal.text_long
refusal_of LineBad = refusal.line_bad
refusal_of KeyBad = refusal.key_bad
refusal_of ArgumentBad = refusal.argument_bad
refusal_of OperatorBad = refusal.operator_bad
refusal_of ValueBad = refusal.value_bad
refusal_of ContentBad = refusal.content_bad
refusal_of PairExtra = refusal.pair_extra
refusal_of CommaMissing = refusal.comma_missing
refusal_of RuleExtra = refusal.rule_extra
refusal_of LabelMissing = refusal.label_missing
refusal_of LineOpen = refusal.line_open
refusal_of FileTwice = refusal.file_twice
refusal_of DeviceBad = refusal.device_bad
refusal_of OutcomeBad = refusal.outcome_bad
refusal_of TooNew = refusal.too_new
refusal_of SheetBad = refusal.sheet_bad
refusal_of SetBad = refusal.set_bad
refusal_of SubstitutionLong = refusal.substitution_long
refusal_of LinkBad = refusal.link_bad
refusal_of ListFull = refusal.list_full
refusal_of OwnerBad = refusal.owner_bad
refusal_of ModeBad = refusal.mode_bad
refusal_of CommandMissing = refusal.command_missing
refusal_of ModeShared = refusal.mode_shared
