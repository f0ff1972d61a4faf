-- Whether a description may start.
use Rattle.std.specs.Prelude.{Bool, cond, ◌&&◌, length, Some, None, Option, nat_le}
use Rattle.layout.specs.Handed.{code_gen_handed, fn_names_handed, names_handed}
use Rattle.texts.specs.declared.refusals.Refusal.{Refusal}
use Rattle.texts.specs.declared.refusals.Refusal.TheVariants.{UnfitStart}
use Rattle.lowering.specs.declared.lent.Handed.{Handed}
use Rattle.lowering.specs.declared.lent.Memory.{Memory}

-- as much of everything as the largest layout takes
abbrev pub enough : Memory → Bool
enough m =
    nat_le 512 (length m.bindings.now) && nat_le 2048 (length m.values.now) && nat_le 1024 (length m.widths.now)
    && nat_le 16 (length m.sums.now) && nat_le 512 (length m.parts.now) && nat_le 8192 (length m.instructions.now)

-- all names and all texts around are as they have to be
abbrev pub handed_fits : Handed → Bool
handed_fits h = names_handed h.names && fn_names_handed h.fn_names && code_gen_handed h.code_gen

abbrev pub start_answer : Memory → Handed → Option Refusal
start_answer m h = cond (enough m && handed_fits h) None (Some UnfitStart)
