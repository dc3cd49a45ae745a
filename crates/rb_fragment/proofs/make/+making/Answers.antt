use Rattle.std.proofs.Common.{◌≡◌, inl, inr, suc, ◌+◌, ◌-◌, ◌≤◌, ◌∷◌, length, sym, subst, ap, ◌∙◌, drop, take, arith}
use Rattle.std.proofs.lemmas.Bool.{and_parts}
use Rattle.rb_target.proofs.Growing.{Grows-append, Grows-refl, Grows-trans}
use Rattle.rb_target.specs.Growth.{Grows}
use Rattle.rb_fragment.specs.declared.reads.Read.{Bits, Joined}
use Rattle.rb_fragment.specs.declared.reads.Share.{Share}
use Rattle.rb_fragment.specs.Reads.{MakesReadIn, fits}
use Rattle.rb_fragment.proofs.Moves.{drop_item}
use Rattle.rb_fragment.proofs.ReadForms.{fits-Bits, fits-Address, fits-Joined, fits-Loaded, fits-Share}
use Rattle.rb_fragment.proofs.Making.{Begins, made_slot, made_number, made_bits, made_loaded, put_share, drop_past, puts_none, puts_more, puts_all, begins_zero, begins_taken, joined_all, share_bits}
use Rattle.rb_fragment.proofs.MakingAll.{take_all}
use Rattle.rb_fragment.proofs.make.+making.Goals as goal

pub make-returns-in-Slot-clause-makes : goal.make-returns-in-Slot-clause-makes
make-returns-in-Slot-clause-makes t c plan k le fit = rw c.in-Slot.is (made_slot plan c.in-Slot.slot c.args.body.now k le (rw c.in-Slot.is at fit))

pub make-returns-in_ok-slot-in-Number-clause-makes : goal.make-returns-in_ok-slot-in-Number-clause-makes
make-returns-in_ok-slot-in-Number-clause-makes t c plan k le fit =
    let e = c.in_ok-slot-in-Number.ensures in
    rw (c.in-Number.is, e.code, e.slot) (made_number plan c.in-Number.number c.args.body.now e.small)

pub make-returns-in_ok-slot-in-Number-clause-grows : goal.make-returns-in_ok-slot-in-Number-clause-grows
make-returns-in_ok-slot-in-Number-clause-grows t c = rw c.in_ok-slot-in-Number.ensures.code (Grows-append c.args.body.now.code _)

pub make-returns-in_ok-slot-in-Bits-clause-makes : goal.make-returns-in_ok-slot-in-Bits-clause-makes
make-returns-in_ok-slot-in-Bits-clause-makes t c plan k le fit =
    let r = c.in-Bits in
    let fit1 = rw r.is at fit in
    let inner = (rw c.get.ensures at c.in_ok-from-in-Bits.ensures.makes) plan k le (and_parts _ _ (sym (fits-Bits k r.inner r.o r.l) ∙ fit1)).0 in
    rw (r.is, c.in_ok-slot-in-Bits.ensures.code, c.in_ok-slot-in-Bits.ensures.slot) (made_bits plan r.inner r.o r.l c.args.body.now c.make.new.body c.in_ok-from-in-Bits.from k fit1 inner)

pub make-returns-in_ok-slot-in-Bits-clause-grows : goal.make-returns-in_ok-slot-in-Bits-clause-grows
make-returns-in_ok-slot-in-Bits-clause-grows t c =
    rw c.in_ok-slot-in-Bits.ensures.code (Grows-trans c.args.body.now.code c.make.new.body.code _ c.in_ok-from-in-Bits.ensures.grows (Grows-append c.make.new.body.code _))

pub make-returns-in_ok-slot-in-Address-clause-makes : goal.make-returns-in_ok-slot-in-Address-clause-makes
make-returns-in_ok-slot-in-Address-clause-makes t c plan k le fit =
    let r = c.in-Address in
    let fit1 = rw r.is at fit in
    let inner = (rw c.get-in-Address.ensures at c.in_ok-from-in-Address.ensures.makes) plan k le (and_parts _ _ (sym (fits-Address k r.inner r.o r.l r.align) ∙ fit1)).0 in
    rw r.is (c.in_ok-slot-in-Address.ensures.makes plan r.inner c.args.body.now k fit1 inner)

pub make-returns-in_ok-slot-in-Address-clause-grows : goal.make-returns-in_ok-slot-in-Address-clause-grows
make-returns-in_ok-slot-in-Address-clause-grows t c =
    Grows-trans c.args.body.now.code c.make-in-Address.new.body.code _ c.in_ok-from-in-Address.ensures.grows c.in_ok-slot-in-Address.ensures.grows

pub make-returns-in_ok-slot-in-Loaded-clause-makes : goal.make-returns-in_ok-slot-in-Loaded-clause-makes
make-returns-in_ok-slot-in-Loaded-clause-makes t c plan k le fit =
    let r = c.in-Loaded in
    let fit1 = rw r.is at fit in
    let inner = (rw c.get-in-Loaded.ensures at c.in_ok-base-in-Loaded.ensures.makes) plan k le (and_parts _ _ (sym (fits-Loaded k r.inner r.byte r.width) ∙ fit1)).0 in
    rw (r.is, c.in_ok-slot-in-Loaded.ensures.code, c.in_ok-slot-in-Loaded.ensures.slot) (made_loaded plan r.inner r.byte r.width c.args.body.now c.make-in-Loaded.new.body c.in_ok-base-in-Loaded.base k fit1 inner)

pub make-returns-in_ok-slot-in-Loaded-clause-grows : goal.make-returns-in_ok-slot-in-Loaded-clause-grows
make-returns-in_ok-slot-in-Loaded-clause-grows t c =
    rw c.in_ok-slot-in-Loaded.ensures.code (Grows-trans c.args.body.now.code c.make-in-Loaded.new.body.code _ c.in_ok-base-in-Loaded.ensures.grows (Grows-append c.make-in-Loaded.new.body.code _))

pub make-returns-in_ok-slot-in-Joined-clause-makes : goal.make-returns-in_ok-slot-in-Joined-clause-makes
make-returns-in_ok-slot-in-Joined-clause-makes t c = rw (c.in-Joined.is, ← c.as_slice.ensures) c.in_ok-slot-in-Joined.ensures.makes

pub make_share-returns-clause-puts : goal.make_share-returns-clause-puts
make_share-returns-clause-puts t c plan k le lt fit =
    let p = c.args.share.now in
    let inner = c.in_ok-from.ensures.makes plan k (omega (arith, le, lt)) (and_parts _ _ (sym (fits-Share k p) ∙ fit)).0 in
    rw (c.in_ok-push.ensures.ok, c.in_ok-part.ensures.code, c.in_ok-part.ensures.slot) (put_share plan p c.args.body.now c.make.new.body c.in_ok-from.from k c.args.slot le lt fit inner)

pub make_share-returns-clause-grows : goal.make_share-returns-clause-grows
make_share-returns-clause-grows t c =
    let b = c.make.new.body.code in
    rw (c.in_ok-push.ensures.ok, c.in_ok-part.ensures.code) (Grows-trans c.args.body.now.code b _ c.in_ok-from.ensures.grows (Grows-trans b _ _ (Grows-append b _) (Grows-append _ _)))

pub put_shares-loop-share-init : goal.put_shares-loop-share-init
put_shares-loop-share-init t c =
    record {
      puts = λ plan k le lt fit. puts_none plan c.args.shares.now c.args.slot c.args.body.now lt;
      more = omega arith;
      grows = Grows-refl c.args.body.now.code;
    }

pub put_shares-loop-share-preserved : goal.put_shares-loop-share-preserved
put_shares-loop-share-preserved t c =
    let shares = c.args.shares.now in
    let i = c.loop-share.share-index in
    let p = c.share-item.result in
    let item : drop i shares ≡ p ∷ drop (i + 1) shares = drop_item shares i p c.loop-share-test.true ∙ ap (λ (q : Share). q ∷ drop (i + 1) shares) (sym c.share-item.is) in
    let inv = c.loop-share.invariant in
    record {
      puts = λ plan k le lt fit.
          puts_more plan shares i p c.args.body.now c.loop-share.body c.make_share.new.body c.args.slot k item le lt fit (inv.puts plan k le lt fit) c.in_ok-make_share.ensures.puts;
      more = omega (arith, inv.more, c.in_ok-make_share.ensures.more);
      grows = Grows-trans c.args.body.now.code c.loop-share.body.code c.make_share.new.body.code inv.grows c.in_ok-make_share.ensures.grows;
    }

pub put_shares-returns-clause-puts : goal.put_shares-returns-clause-puts
put_shares-returns-clause-puts t c plan k le lt fit =
    let shares = c.args.shares.now in
    let i = c.loop-share.share-index in
    let past : length shares ≤ i = omega (arith, c.loop-share-test.false) in
    puts_all plan shares i c.args.slot c.args.body.now c.loop-share.body (drop_past shares i past) (c.loop-share.invariant.puts plan k le lt fit)

pub make_joined-returns-then-first-eq0-clause-makes : goal.make_joined-returns-then-first-eq0-clause-makes
make_joined-returns-then-first-eq0-clause-makes t c plan k le fit =
    let shares = c.args.shares.now in
    let a = c.args.body.now in
    let p = c.first-item.result in
    let after = drop 1 shares in
    let first : shares ≡ p ∷ after = drop_item shares 0 p (omega (arith, c.in-len1-up.len_at_least)) ∙ ap (λ (q : Share). q ∷ after) (sym c.first-item.is) in
    let rest = take (length shares - 1) after in
    let long : length shares ≡ suc (length after) = ap length first in
    let item : shares ≡ p ∷ rest = first ∙ ap (λ ps. p ∷ ps) (sym (take_all after (length shares - 1) (omega (arith, long)))) in
    let fit1 = sym (ap (λ ps. fits k (Joined ps)) item) ∙ fit in
    let f = share_bits plan p rest k fit1 in
    let made : MakesReadIn plan (Bits p.read p.o p.l) a c.emit_take.new.body c.in_ok-slot.slot =
    rw (c.in_ok-slot.ensures.code, c.in_ok-slot.ensures.slot) (made_bits plan p.read p.o p.l a c.make.new.body c.in_ok-from.from k f.1 (c.in_ok-from.ensures.makes plan k le f.0)) in
    let begun = begins_taken plan p rest a c.emit_take.new.body c.in_ok-slot.slot k le fit1 c.if-first-eq0.true (omega (arith, c.in_ok-slot.ensures.slot, c.in_ok-from.ensures.more)) made in
    subst (λ ps. MakesReadIn plan (Joined ps) a c.put_shares.new.body c.in_ok-slot.slot) (sym item)
    (joined_all plan (p ∷ rest) rest a c.emit_take.new.body c.put_shares.new.body c.in_ok-slot.slot k le f.2 begun c.in_ok-put_shares.ensures.puts)

pub make_joined-returns-then-first-eq0-clause-grows : goal.make_joined-returns-then-first-eq0-clause-grows
make_joined-returns-then-first-eq0-clause-grows t c =
    let b = c.make.new.body.code in
    let one : Grows b c.emit_take.new.body.code = rw c.in_ok-slot.ensures.code (Grows-append b _) in
    Grows-trans c.args.body.now.code b _ c.in_ok-from.ensures.grows (Grows-trans b c.emit_take.new.body.code _ one c.in_ok-put_shares.ensures.grows)

pub make_joined-returns-clause-makes : goal.make_joined-returns-clause-makes
make_joined-returns-clause-makes t c plan k le fit =
    let shares = c.args.shares.now in
    let a = c.args.body.now in
    let begun : Begins plan shares shares a c.emit_const.new.body c.in_ok-slot-2.slot =
    rw (c.in_ok-slot-2.ensures.code, c.in_ok-slot-2.ensures.slot) (begins_zero plan shares a k le fit) in
    joined_all plan shares shares a c.emit_const.new.body c.put_shares-2.new.body c.in_ok-slot-2.slot k le (sym (fits-Joined k shares) ∙ fit) begun c.in_ok-put_shares-2.ensures.puts

pub make_joined-returns-clause-grows : goal.make_joined-returns-clause-grows
make_joined-returns-clause-grows t c =
    let b = c.args.body.now.code in
    let one : Grows b c.emit_const.new.body.code = rw c.in_ok-slot-2.ensures.code (Grows-append b _) in
    Grows-trans b c.emit_const.new.body.code _ one c.in_ok-put_shares-2.ensures.grows

pub make-returns-in-Slot-clause-origin : goal.make-returns-in-Slot-clause-origin
make-returns-in-Slot-clause-origin t c = inr c.in-Slot.is

pub make-returns-in_ok-slot-in-Number-clause-origin : goal.make-returns-in_ok-slot-in-Number-clause-origin
make-returns-in_ok-slot-in-Number-clause-origin t c = inl (omega (arith, c.in_ok-slot-in-Number.ensures.slot))

pub make-returns-in_ok-slot-in-Bits-clause-origin : goal.make-returns-in_ok-slot-in-Bits-clause-origin
make-returns-in_ok-slot-in-Bits-clause-origin t c = inl (omega (arith, c.in_ok-slot-in-Bits.ensures.slot, c.in_ok-from-in-Bits.ensures.more))

pub make-returns-in_ok-slot-in-Address-clause-origin : goal.make-returns-in_ok-slot-in-Address-clause-origin
make-returns-in_ok-slot-in-Address-clause-origin t c = inl (omega (arith, c.in_ok-slot-in-Address.ensures.origin, c.in_ok-from-in-Address.ensures.more))

pub make-returns-in_ok-slot-in-Loaded-clause-origin : goal.make-returns-in_ok-slot-in-Loaded-clause-origin
make-returns-in_ok-slot-in-Loaded-clause-origin t c = inl (omega (arith, c.in_ok-slot-in-Loaded.ensures.slot, c.in_ok-base-in-Loaded.ensures.more))

pub make-returns-in_ok-slot-in-Joined-clause-origin : goal.make-returns-in_ok-slot-in-Joined-clause-origin
make-returns-in_ok-slot-in-Joined-clause-origin t c = inl c.in_ok-slot-in-Joined.ensures.origin
