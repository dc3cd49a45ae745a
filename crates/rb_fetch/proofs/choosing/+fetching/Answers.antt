use Rattle.std.proofs.Common.{◌≡◌, Some, length, take, refl, sym, ap, ◌∙◌, arith}
use Rattle.std.proofs.lemmas.Option.{slice_get-get_or}
use Rattle.std.specs.Option.{option_copied}
use Rattle.rb_target.proofs.Growing.{Grows-refl, Grows-trans}
use Rattle.rb_fetch.specs.declared.choosing.Amounts.{Amounts}
use Rattle.rb_fetch.specs.declared.known.Seen.{Seen}
use Rattle.rb_fetch.specs.inner.Choosing.{parts_under}
use Rattle.rb_fetch.specs.inner.Seen.{seen_before}
use Rattle.rb_fetch.proofs.Behind.{end_chosen, look_chosen, looked_chooses, looked_patchable, told_chosen}
use Rattle.rb_fetch.proofs.Branches.{branches_more, branches_none, learnt_chooses, learnt_forgotten}
use Rattle.rb_fetch.proofs.Constructed.{alone_constructed, ways_constructed, ways_grown}
use Rattle.rb_fetch.proofs.FieldParts.{fetches_none, layer_fetches, take-left}
use Rattle.rb_fetch.proofs.Rebuilding.{part_con, parts_more, parts_none, wild_fetched, wild_open}
use Rattle.rb_fetch.proofs.choosing.+fetching.Goals as goal

pub choose-returns-in_default-2-clause-chooses : goal.choose-returns-in_default-2-clause-chooses
choose-returns-in_default-2-clause-chooses t c =
    end_chosen c.end_ways.result c.args.whole.now.agreed.now c.args.whole.now.ty c.args.whole.now.leaves.now c.args.seen.now c.args.parts.now c.args.body.now c.end_ways.new.body c.in-len1-up.len_at_least
    (rw c.in_default-2.is at c.in_ok-question.ensures) (rw c.as_slice-in_default-2.ensures at c.end_ways.ensures)

pub choose-returns-in-Some-told-clause-chooses : goal.choose-returns-in-Some-told-clause-chooses
choose-returns-in-Some-told-clause-chooses t c =
    told_chosen c.choose_under.result c.args.whole.now.agreed.now c.args.whole.now.ty c.args.whole.now.leaves.now c.args.seen.now c.args.parts.now c.args.body.now c.choose_under.new.body c.in-len1-up.len_at_least
    c.in-Some.question (rw (c.in-Some.is, c.as_slice.ensures) at c.in_ok-question.ensures) c.in-Some-told.inner c.in-Some-told.is (rw c.as_slice-words.ensures at c.choose_under.ensures.chooses)

pub choose-returns-clause-chooses : goal.choose-returns-clause-chooses
choose-returns-clause-chooses t c =
    look_chosen c.look.result c.args.whole.now.agreed.now c.args.whole.now.ty c.args.whole.now.leaves.now c.args.seen.now c.args.parts.now c.args.body.now c.look.new.body c.in-len1-up.len_at_least
    c.in-Some.question (rw (c.in-Some.is, c.as_slice.ensures) at c.in_ok-question.ensures) (rw c.as_slice-words.ensures at c.look.ensures.chooses)

pub look-loop-inner-init : goal.look-loop-inner-init
look-loop-inner-init t c = record {
  done = rw (c.new-starts.ensures, c.new-ways.ensures) (branches_none c.args.whole.now.agreed.now c.args.whole.now.ty c.args.whole.now.leaves.now c.args.seen.now c.args.parts.now c.args.part.now.place.now.path c.args.part.now.place.now.con.ty c.args.part.now.words.now c.find_leaves.new.body);
  parts = refl;
  seen = refl;
}

pub look-loop-inner-preserved : goal.look-loop-inner-preserved
look-loop-inner-preserved t c =
    let under = rw (c.loop-inner.invariant.parts, c.loop-inner.invariant.seen) at c.in_ok-ways.ensures.chooses in
    record {
      done = rw (c.in_ok-add_leaf.ensures, c.len-start.ensures.value)
          (branches_more c.args.whole.now.agreed.now c.args.whole.now.ty c.args.whole.now.leaves.now c.args.seen.now c.args.parts.now c.args.part.now.place.now.path c.args.part.now.place.now.con.ty c.args.part.now.words.now c.loop-inner.inner c.find_leaves.new.body c.loop-inner.body c.choose_under.new.body
          c.loop-inner.code.starts c.loop-inner.code.ways c.in_ok-ways.ways c.loop-inner.invariant.done under);
      parts = c.in_ok-ways.ensures.parts ∙ c.loop-inner.invariant.parts;
      seen = c.in_ok-ways.ensures.seen ∙ c.loop-inner.invariant.seen;
    }

pub choose_under-returns-clause-chooses : goal.choose_under-returns-clause-chooses
choose_under-returns-clause-chooses t c =
    learnt_chooses c.args.whole.now.agreed.now c.args.whole.now.ty c.args.whole.now.leaves.now c.args.seen.now c.args.parts.now c.args.part.now.place.now c.args.part.now.words.now c.args.inner c.learn.new.seen c.in_ok-learnt.learnt c.in_ok-learnt.ensures
    c.args.body.now c.fetch_fields.new.body c.choose.new.body c.fetch_fields.new.parts c.in_ok-ways.ways c.in_ok-fetch_fields.ensures.fetches c.in_ok-fetch_fields.ensures.grows (rw c.as_slice-leaves.ensures at c.in_ok-ways.ensures.chooses)

pub choose_under-returns-clause-parts : goal.choose_under-returns-clause-parts
choose_under-returns-clause-parts t c =
    c.take_back.ensures.parts ∙ ap (λ (had : Amounts). take had.parts c.choose.new.parts) c.amounts_of-had.ensures ∙ ap (λ ps. take (length c.args.parts.now) ps) c.in_ok-ways.ensures.parts ∙ c.in_ok-fetch_fields.ensures.parts

pub choose_under-returns-clause-seen : goal.choose_under-returns-clause-seen
choose_under-returns-clause-seen t c =
    c.take_back.ensures.seen ∙ ap (λ (had : Amounts). seen_before had.looked had.known c.choose.new.seen) c.amounts_of-had.ensures
    ∙ ap (λ (seen : Seen). seen_before (length c.args.seen.now.looked) (length c.args.seen.now.known) seen) c.in_ok-ways.ensures.seen
    ∙ learnt_forgotten c.args.whole.now.agreed.now c.args.whole.now.ty c.args.whole.now.leaves.now c.args.seen.now c.args.parts.now c.args.part.now.place.now c.args.part.now.words.now c.args.inner c.learn.new.seen c.in_ok-learnt.learnt c.in_ok-learnt.ensures

pub look-close_look-ways-requires : goal.look-close_look-ways-requires
look-close_look-ways-requires t c =
    let all : c.loop-inner.inner ≡ c.in_ok-count.field-0.count = omega (arith, c.loop-inner-test.false, c.loop-inner.auto.inner-end) in
    looked_patchable c.args.whole.now.agreed.now c.args.whole.now.ty c.args.whole.now.leaves.now c.args.seen.now c.args.parts.now c.args.part.now.place.now.path c.args.part.now.place.now.con.ty c.args.part.now.words.now c.args.body.now c.find_leaves.new.body c.loop-inner.body
    c.in_ok-count.field-0 c.loop-inner.code.starts c.loop-inner.code.ways c.in_ok-count.ensures (rw all at c.loop-inner.invariant.done)

pub look-returns-clause-chooses : goal.look-returns-clause-chooses
look-returns-clause-chooses t c =
    let all : c.loop-inner.inner ≡ c.in_ok-count.field-0.count = omega (arith, c.loop-inner-test.false, c.loop-inner.auto.inner-end) in
    rw c.close_look-ways.ensures.ways
    (looked_chooses c.args.whole.now.agreed.now c.args.whole.now.ty c.args.whole.now.leaves.now c.args.seen.now c.args.parts.now c.args.part.now.place.now.path c.args.part.now.place.now.con.ty c.args.part.now.words.now c.args.body.now c.find_leaves.new.body c.loop-inner.body
    c.in_ok-count.field-0 c.loop-inner.code.starts c.loop-inner.code.ways c.in_ok-count.ensures (rw all at c.loop-inner.invariant.done) c.close_look-ways.new.body c.close_look-ways.ensures.code)

pub fetch_fields-returns-then-not-needed-clause-fetches : goal.fetch_fields-returns-then-not-needed-clause-fetches
fetch_fields-returns-then-not-needed-clause-fetches t c = fetches_none c.args.source.now.agreed.now c.args.path.now c.args.source.now.ty c.args.source.now.leaf c.args.source.now.words.now c.args.body.now c.args.parts.now

pub fetch_fields-returns-clause-fetches : goal.fetch_fields-returns-clause-fetches
fetch_fields-returns-clause-fetches t c =
    layer_fetches c.args.source.now.agreed.now c.args.path.now c.args.source.now.ty c.args.source.now.leaf c.args.source.now.words.now c.args.body.now c.fetch_parts.new.body c.args.parts.now c.add_parts.new.parts c.in_ok-layer.layer.con c.in_ok-layer.layer.subs.now
    c.in_ok-layer.ensures c.in_ok-fields.fields (rw c.as_slice.ensures at c.in_ok-add_parts.ensures) (rw c.new-root.ensures at c.in_ok-fields.ensures.fetches)

pub fetch_fields-returns-clause-parts : goal.fetch_fields-returns-clause-parts
fetch_fields-returns-clause-parts t c =
    ap (take (length c.args.parts.now)) c.in_ok-add_parts.ensures ∙ take-left c.args.parts.now (parts_under c.args.path.now 0 c.as_slice.result.now)

pub fetch_part-returns-in_ok-held-in-Con-clause-fetches : goal.fetch_part-returns-in_ok-held-in-Con-clause-fetches
fetch_part-returns-in_ok-held-in-Con-clause-fetches t c =
    rw c.in-Con.is
    (part_con c.args.source.now.agreed.now (rw c.covered.ensures.same at c.program-typed.ensures.typed) c.layouts-agreed.ensures.flat c.layouts-agreed.ensures.agree c.args.source.now.ty c.args.source.now.leaf c.in-Con.field-0 c.in-Con.con c.in-Con.subs
    c.args.path.now c.args.source.now.words.now c.args.body.now c.fetch_parts.new.body c.construct_at.new.body c.in_ok-args-in-Con.args c.in_ok-held-in-Con.held (rw c.as_slice-subs.ensures at c.in_ok-args-in-Con.ensures.fetches)
    (rw (c.as_slice-in-Con.ensures, c.as_slice-subs.ensures) at c.in_ok-held-in-Con.ensures.constructs))

pub fetch_part-returns-in_ok-held-in-Con-clause-grows : goal.fetch_part-returns-in_ok-held-in-Con-clause-grows
fetch_part-returns-in_ok-held-in-Con-clause-grows t c =
    Grows-trans c.args.body.now.code c.fetch_parts.new.body.code c.construct_at.new.body.code c.in_ok-args-in-Con.ensures.grows c.in_ok-held-in-Con.ensures.grows

pub fetch_part-returns-in-Wild-clause-fetches : goal.fetch_part-returns-in-Wild-clause-fetches
fetch_part-returns-in-Wild-clause-fetches t c =
    wild_fetched c.args.source.now.agreed.now (rw c.covered.ensures.same at c.program-typed.ensures.typed) c.layouts-agreed.ensures.flat c.layouts-agreed.ensures.agree c.args.source.now.ty c.args.source.now.leaf c.fetch_open.result c.args.pat.now c.args.path.now c.args.source.now.words.now
    c.args.body.now c.fetch_open.new.body (wild_open c.args.pat.now c.in-Wild.field-0 c.in-Wild.is) (rw c.as_slice.ensures at c.fetch_open.ensures.fetches)

pub fetch_parts-loop-j-init : goal.fetch_parts-loop-j-init
fetch_parts-loop-j-init t c = record {
  grows = Grows-refl _;
  fetches = rw c.new-args.ensures (parts_none c.args.source.now.agreed.now c.args.source.now.ty c.args.source.now.leaf c.args.con c.args.subs.now c.args.path.now c.args.source.now.words.now c.args.body.now);
}

pub fetch_parts-loop-j-preserved : goal.fetch_parts-loop-j-preserved
fetch_parts-loop-j-preserved t c =
    let item = slice_get-get_or c.args.subs.now c.loop-j.j c.index-subs-j.result c.loop-j-test.true ∙ ap Some (sym c.index-subs-j.is) in
    record {
      grows = Grows-trans _ _ _ c.loop-j.invariant.grows c.in_ok-slots.ensures.grows;
      fetches = rw c.in_ok-push.ensures.ok
          (parts_more c.args.source.now.agreed.now c.args.source.now.ty c.args.source.now.leaf c.args.con c.args.subs.now c.loop-j.j c.args.path.now c.args.source.now.words.now c.args.body.now c.loop-j.body c.fetch_part.new.body c.loop-j.args c.index-subs-j.result c.in_ok-field.field.ty
          c.in_ok-slots.slots c.loop-j.invariant.fetches item c.in_ok-field.ensures.1 (rw c.in_ok-field.ensures.0 at c.in_ok-slots.ensures.fetches));
    }

pub fetch_parts-returns-clause-fetches : goal.fetch_parts-returns-clause-fetches
fetch_parts-returns-clause-fetches t c =
    let all : c.loop-j.j ≡ length c.args.subs.now = omega (arith, c.loop-j-test.false, c.loop-j.auto.j-end) in
    rw (← all) c.loop-j.invariant.fetches

pub construct_at-returns-in-Some-clause-constructs : goal.construct_at-returns-in-Some-clause-constructs
construct_at-returns-in-Some-clause-constructs t c =
    let leaf = c.in-Some.leaf.now in
    alone_constructed c.emit_alone.result c.args.agreed.now c.args.con c.args.args.now c.args.shown.now c.args.body.now c.emit_alone.new.body leaf (c.in_ok-leaf.ensures leaf (ap option_copied c.in-Some.is)) c.emit_alone.ensures.makes

pub construct_at-emit_choices-requires : goal.construct_at-emit_choices-requires
construct_at-emit_choices-requires t c = record { «open» = (length c.args.body.now.code, c.in_ok-ways.ensures.chooses.are_open) }

pub construct_at-returns-clause-constructs : goal.construct_at-returns-clause-constructs
construct_at-returns-clause-constructs t c =
    ways_constructed c.emit_choices.result c.args.agreed.now c.args.con c.args.args.now c.args.shown.now c.args.body.now c.emit_choices.new.body c.in_ok-start.start c.in_ok-start.ensures c.choose.new.body c.in_ok-ways.ways
    (rw c.as_slice-leaves.ensures at c.in_ok-ways.ensures.chooses) c.emit_choices.ensures

pub construct_at-returns-clause-grows : goal.construct_at-returns-clause-grows
construct_at-returns-clause-grows t c =
    ways_grown c.emit_choices.result c.args.agreed.now c.args.con c.args.args.now c.args.shown.now c.args.body.now c.emit_choices.new.body c.in_ok-start.start c.in_ok-start.ensures c.choose.new.body c.in_ok-ways.ways
    (rw c.as_slice-leaves.ensures at c.in_ok-ways.ensures.chooses) c.emit_choices.ensures
