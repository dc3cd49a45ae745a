use Rattle.std.proofs.Common.{length, sym, subst, ap, ◌∙◌}
use Rattle.rb_core.specs.declared.types.Ty.TheVariants.{Named}
use Rattle.rb_image_text.specs.Places.{AreInPlace}
use Rattle.rb_image.specs.Blocks.{block_at}
use Rattle.rb_image.specs.Parts.{at_of, look}
use Rattle.rb_image.specs.Roots.{WordsFit, IsFirstImageFault, IsSoundImage, root_at, widths_of}
use Rattle.rb_image.specs.inner.Descending.{SoundnessIsFound}
use Rattle.rb_image.specs.inner.Ending.{DescentEnds, depth_bound}
use Rattle.rb_image.proofs.RootLemmas.{named_answers, none_at_zero}
use Rattle.rb_image.proofs.examine.examine_image.Goals as goal

pub descend-requires : goal.descend-requires
descend-requires c =
    let m = c.as_slice-memory.result.now in
    let none = ap (λ bs. block_at bs 0) c.as_slice-memory.ensures ∙ none_at_zero c.args.image.now.blocks c.requires.placed in
    record {
      placed = subst AreInPlace (sym c.as_slice-memory.ensures) c.requires.placed;
      ends = subst (DescentEnds (look c.args.agreed.now.covered.program.types c.args.agreed.now.layouts m) (depth_bound 18446744073709551616 (length c.args.agreed.now.layouts)))
          (sym c.in_ok-root_place-in-None-first_misfit.ensures) (c.descents_end.ensures m c.in-Named.ty c.as_slice-words.result.now none);
    }

pub returns-in_ok-root_place-in-None-first_misfit-clause-fine : goal.returns-in_ok-root_place-in-None-first_misfit-clause-fine
returns-in_ok-root_place-in-None-first_misfit-clause-fine c = λ h.
    let types = c.args.agreed.now.covered.program.types in
    let layouts = c.args.agreed.now.layouts in
    let image = c.args.image.now in
    let t = c.in-Named.ty in
    let r = c.descend.result in
    let place = at_of c.in_ok-root_place-in-None-first_misfit.field-0 in
    let widths = c.widths_of.ensures ∙ ap (λ ls. widths_of ls (Named t)) c.layouts.ensures.same in
    let fit = subst (WordsFit (widths_of layouts (Named t))) c.as_slice-words.ensures (subst (λ ws. WordsFit ws c.as_slice-words.result.now) widths c.in-None-first_misfit.ensures) in
    let below = subst (λ m. SoundnessIsFound (look types layouts m) place r) c.as_slice-memory.ensures c.descend.ensures in
    let found = subst (λ q. SoundnessIsFound (look types layouts image.blocks) q r) (c.in_ok-root_place-in-None-first_misfit.ensures ∙ ap (root_at t) c.as_slice-words.ensures) below in
    (named_answers types layouts image t fit r found).fine (subst (IsSoundImage types layouts image) c.in-Named.is h)

pub returns-in_ok-root_place-in-None-first_misfit-clause-first : goal.returns-in_ok-root_place-in-None-first_misfit-clause-first
returns-in_ok-root_place-in-None-first_misfit-clause-first c = λ fault h.
    let types = c.args.agreed.now.covered.program.types in
    let layouts = c.args.agreed.now.layouts in
    let image = c.args.image.now in
    let t = c.in-Named.ty in
    let r = c.descend.result in
    let place = at_of c.in_ok-root_place-in-None-first_misfit.field-0 in
    let widths = c.widths_of.ensures ∙ ap (λ ls. widths_of ls (Named t)) c.layouts.ensures.same in
    let fit = subst (WordsFit (widths_of layouts (Named t))) c.as_slice-words.ensures (subst (λ ws. WordsFit ws c.as_slice-words.result.now) widths c.in-None-first_misfit.ensures) in
    let below = subst (λ m. SoundnessIsFound (look types layouts m) place r) c.as_slice-memory.ensures c.descend.ensures in
    let found = subst (λ q. SoundnessIsFound (look types layouts image.blocks) q r) (c.in_ok-root_place-in-None-first_misfit.ensures ∙ ap (root_at t) c.as_slice-words.ensures) below in
    (named_answers types layouts image t fit r found).first fault (subst (λ ty. IsFirstImageFault types layouts image ty fault) c.in-Named.is h)
