use Rattle.std.proofs.Common.{◌≡◌, None, replicate, length, refl, ap, ◌∙◌}
use Rattle.std.proofs.lemmas.List.{length-replicate}
use Rattle.rb_raw.specs.declared.memory.RawMemory.TheInside.{Inside}
use Rattle.rb_raw.proofs.RawLemmas.{new_kept, new_is}
use Rattle.rb_raw.proofs.memory.RawMemory.new.Goals as goal

pub invariant_of-result : goal.invariant_of-result
invariant_of-result c =
    let r : Inside = record { bytes = c.in_ok-bytes.bytes; marks = c.in_ok-marks.marks; blocks = 0; next = 64; limit = c.args.limit } in
    let clear = c.in_ok-marks.ensures in
    let long = ap length (c.as_slice.ensures.value ∙ clear) ∙ length-replicate c.args.limit 0 in
    let empty : r.bytes ≡ replicate r.limit None = c.in_ok-bytes.ensures ∙ ap (λ n. replicate n None) long in
    new_kept r empty clear refl refl c.requires.0 c.requires.1

pub returns-clause-value : goal.returns-clause-value
returns-clause-value c =
    let r : Inside = record { bytes = c.in_ok-bytes.bytes; marks = c.in_ok-marks.marks; blocks = 0; next = 64; limit = c.args.limit } in
    let clear = c.in_ok-marks.ensures in
    let long = ap length (c.as_slice.ensures.value ∙ clear) ∙ length-replicate c.args.limit 0 in
    let empty : r.bytes ≡ replicate r.limit None = c.in_ok-bytes.ensures ∙ ap (λ n. replicate n None) long in
    new_is r empty clear refl

pub returns-clause-good : goal.returns-clause-good
returns-clause-good c = (invariant_of-result c).good
