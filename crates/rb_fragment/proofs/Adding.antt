-- Additions, one behind the other: they stay fitting and written.
use Rattle.std.proofs.Common.{◌≡◌, ℕ, ◌+◌, ◌<◌, ◌≤◌, ◌⊎◌, inl, inr, [], ◌∷◌, ◌++◌, length, Some, refl, sym, subst, ap, ◌∙◌, arith, length-append}
use Rattle.std.proofs.lemmas.Option.{slice_get_within, same_Some}
use Rattle.std.specs.Prelude.{slice_get, Contains}
use Rattle.rb_target.specs.declared.instr.Instr.{Instr}
use Rattle.rb_target.specs.Sheet.{Sheet, with_more, with_slot}
use Rattle.rb_target.specs.Validity.{dests}
use Rattle.rb_fragment.specs.Adding.{Adds, IsFitting, IsWrittenFrom}
use Rattle.rb_fragment.specs.Plan.{Plan}
use Rattle.rb_target.proofs.Growing.{Grows-append, Grows-refl, Grows-trans, SlotsFit-more, TargetsFit-more, below_or, get-seam}

pub IsFitting-more : (plan : Plan) (n n' long long' pc : ℕ) (i : Instr) → n ≤ n' → long ≤ long' → IsFitting plan n long pc i → IsFitting plan n' long' pc i
IsFitting-more plan n n' long long' pc i le le' f = record {
  bounded = f.bounded;
  slots_fit = SlotsFit-more n n' le i f.slots_fit;
  targets = TargetsFit-more (long + 1) (long' + 1) pc (omega (arith, le')) i f.targets;
  calls = f.calls;
}

-- Additions

module _ (plan : Plan) where
  pub Adds-refl : (a : Sheet) → Adds plan a a
  Adds-refl a = record {
    grows = Grows-refl a.code;
    more = omega arith;
    params = refl;
    written = λ s lo hi. absurd (omega (arith, lo, hi));
    fine = λ pc i lo e. let lt = slice_get_within a.code pc i e in absurd (omega (arith, lo, lt));
  }

  module _ (a b c : Sheet) (g : Adds plan a b) (h : Adds plan b c) where
    trans_written : (s : ℕ) → a.slots ≤ s → s < c.slots → (s < b.slots) ⊎ (b.slots ≤ s) → IsWrittenFrom c.code (length a.code) s
    trans_written s lo hi (inl lt) =
        let w = g.written s lo lt in
        (w.0, w.1, w.2, h.grows.same w.0 (slice_get_within b.code w.0 w.1 w.3) ∙ w.3, w.4)
    trans_written s lo hi (inr le) =
        let w = h.written s le hi in (w.0, w.1, omega (arith, w.2, g.grows.longer), w.3, w.4)

    trans_fine : (pc : ℕ) (i : Instr) → length a.code ≤ pc → slice_get c.code pc ≡ Some i → (pc < length b.code) ⊎ (length b.code ≤ pc) → IsFitting plan c.slots (length c.code) pc i
    trans_fine pc i lo e (inl lt) =
        IsFitting-more plan b.slots c.slots (length b.code) (length c.code) pc i h.more h.grows.longer (g.fine pc i lo (sym (h.grows.same pc lt) ∙ e))
    trans_fine pc i lo e (inr le) = h.fine pc i le e

    pub Adds-trans : Adds plan a c
    Adds-trans = record {
      grows = Grows-trans a.code b.code c.code g.grows h.grows;
      more = omega (arith, g.more, h.more);
      params = h.params ∙ g.params;
      written = λ s lo hi. trans_written s lo hi (below_or s b.slots);
      fine = λ pc i lo e. trans_fine pc i lo e (below_or pc (length b.code));
    }

  -- one instruction that writes one fresh slot
  pub Adds-one : (a : Sheet) (i : Instr) → Contains (dests i) a.slots → IsFitting plan (a.slots + 1) (length a.code + 1) (length a.code) i → Adds plan a (with_more (with_slot a) i)
  Adds-one a i writes fits = record {
    grows = Grows-append a.code (i ∷ []);
    more = omega arith;
    params = refl;
    written = λ s lo hi.
        let same : a.slots ≡ s = omega (arith, lo, hi) in
        (length a.code, i, omega arith, get-seam a.code i [], subst (λ k. Contains (dests i) k) same writes);
    fine = λ pc j lo e.
        let long : length (a.code ++ i ∷ []) ≡ length a.code + 1 = length-append a.code (i ∷ []) in
        let lt = slice_get_within (a.code ++ i ∷ []) pc j e in
        let same : pc ≡ length a.code = omega (arith, lo, lt, long) in
        let is : i ≡ j = same_Some i j (sym (get-seam a.code i []) ∙ ap (λ k. slice_get (a.code ++ i ∷ []) k) (sym same) ∙ e) in
        subst (λ k. IsFitting plan (a.slots + 1) k pc j) (sym long) (subst (λ k. IsFitting plan (a.slots + 1) (length a.code + 1) k j) (sym same) (subst (λ (k : Instr). IsFitting plan (a.slots + 1) (length a.code + 1) (length a.code) k) is fits));
  }

  -- one instruction that writes no slot
  pub push_adds : (a : Sheet) (i : Instr) → IsFitting plan a.slots (length a.code + 1) (length a.code) i → Adds plan a (with_more a i)
  push_adds a i fits = record {
    grows = Grows-append a.code (i ∷ []);
    more = omega arith;
    params = refl;
    written = λ s lo hi. absurd (omega (arith, lo, hi));
    fine = λ pc j lo e.
        let long : length (a.code ++ i ∷ []) ≡ length a.code + 1 = length-append a.code (i ∷ []) in
        let lt = slice_get_within (a.code ++ i ∷ []) pc j e in
        let same : pc ≡ length a.code = omega (arith, lo, lt, long) in
        let is : i ≡ j = same_Some i j (sym (get-seam a.code i []) ∙ ap (λ k. slice_get (a.code ++ i ∷ []) k) (sym same) ∙ e) in
        subst (λ k. IsFitting plan a.slots k pc j) (sym long) (subst (λ k. IsFitting plan a.slots (length a.code + 1) k j) (sym same) (subst (λ (k : Instr). IsFitting plan a.slots (length a.code + 1) (length a.code) k) is fits));
  }
