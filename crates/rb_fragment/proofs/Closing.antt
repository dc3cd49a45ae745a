-- Holes that are closed: each leads to the target of its way.
use Rattle.std.proofs.Common.{◌≡◌, ◌≢◌, ℕ, zero, suc, ◌<◌, ◌≤◌, ◌⊎◌, inl, inr, eqb, true, false, List, [], ◌∷◌, Option, Some, None, refl, sym, subst, ap, ◌∙◌, arith}
use Rattle.std.proofs.lemmas.Bool.Decides.{eqb_tells}
use Rattle.std.proofs.lemmas.Option.{same_Some}
use Rattle.std.specs.Prelude.{slice_get, slice_index}
use Rattle.rb_target.specs.declared.instr.Instr.{Instr}
use Rattle.rb_target.specs.declared.body.Hole.{Hole}
use Rattle.rb_target.specs.Sheet.{Sheet, with_target_at}
use Rattle.rb_fragment.proofs.Fragments.{one}
use Rattle.rb_fragment.proofs.Patching.{AreAllHoles, all_holes_patched}
use Rattle.rb_fragment.specs.Arms.{AreOfOneWay, with_targets}
use Rattle.rb_target.proofs.Finishing.{finishes_patched, finishes_plain, leads_patched}
use Rattle.rb_target.proofs.Shapes.{patch_is}
use Rattle.rb_target.specs.Growth.{AgreesBut, Nowhere}
use Rattle.rb_target.specs.Targets.{Finishes, IsHoleAmong, IsOpenTarget, target_in}

-- is this place open?
same_arm : (a b : Option ℕ) → (a ≡ b) ⊎ (a ≡ b → ⊥)
same_arm None None = inl refl
same_arm None (Some k) = inr (λ e. cc e)
same_arm (Some k) None = inr (λ e. cc e)
same_arm (Some j) (Some k) = elim (eqb_tells j k) [ inl e ↦ inl (ap Some e.1) | inr e ↦ inr (λ s. e.1 (same_Some j k s)) ]

in_head : (h : Hole) (hs : List Hole) (o : Hole) → IsHoleAmong o (h ∷ hs) → (h ≡ o) ⊎ IsHoleAmong o hs
in_head h hs o (zero, e) = inl (same_Some h o e)
in_head h hs o (suc k, e) = inr (k, e)

in_tail : (h : Hole) (hs : List Hole) (o : Hole) → IsHoleAmong o hs → IsHoleAmong o (h ∷ hs)
in_tail h hs o (k, e) = (suc k, e)

in_none : (o : Hole) → IsHoleAmong o [] → ⊥
in_none o (k, e) = cc e

pub is_open : (hs : List Hole) (q : ℕ) (arm : Option ℕ) → IsOpenTarget hs q arm ⊎ (IsOpenTarget hs q arm → ⊥)
is_open [] q arm = inr (λ o. in_none o.0 o.1)
is_open (h ∷ hs) q arm = elim (is_open hs q arm) [
  | inl o ↦ inl (o.0, in_tail h hs o.0 o.1, o.2, o.3)
  | inr shut ↦ here shut (eqb_tells h.pc q) (same_arm h.arm arm)
]
  where
    rest : (IsOpenTarget hs q arm → ⊥) → ((h.pc ≡ q) × (h.arm ≡ arm) → ⊥) → IsOpenTarget (h ∷ hs) q arm → ⊥
    rest shut ne o = elim (in_head h hs o.0 o.1) [
      | inl is ↦ ne (ap (λ (x : Hole). x.pc) is ∙ o.2, ap (λ (x : Hole). x.arm) is ∙ o.3)
      | inr i ↦ shut (o.0, i, o.2, o.3)
    ]

    here : (IsOpenTarget hs q arm → ⊥) → ((eqb h.pc q ≡ true) × (h.pc ≡ q)) ⊎ ((eqb h.pc q ≡ false) × (h.pc ≢ q)) → (h.arm ≡ arm) ⊎ (h.arm ≡ arm → ⊥) → IsOpenTarget (h ∷ hs) q arm ⊎ (IsOpenTarget (h ∷ hs) q arm → ⊥)
    here shut (inl e) (inl a) = inl (h, (0, refl), e.1, a)
    here shut (inl e) (inr ne) = inr (rest shut (λ s. ne s.1))
    here shut (inr ne) a = inr (rest shut (λ s. ne.1 s.0))

-- code whose holes are closed: what it is without them, and where each leads
pub record IsClosed (final : List Instr) (b : Sheet) (hs : List Hole) (ts : List ℕ) (lo hi : ℕ) : Type 0 where
  pub finishes : Finishes final b.code hs lo hi
  pub leads : (h : Hole) → IsHoleAmong h hs → lo ≤ h.pc → h.pc < hi → target_in (slice_get final h.pc) h.arm ≡ Some (slice_index ts h.leaf)

pub closed_is : (final : List Instr) (hs : List Hole) (ts : List ℕ) (b : Sheet) (lo hi : ℕ) → AgreesBut final (with_targets b hs ts).code lo hi Nowhere → AreAllHoles b.code hs → AreOfOneWay hs → IsClosed final b hs ts lo hi
closed_is final [] ts b lo hi agrees holes one = record { finishes = finishes_plain final b.code [] lo hi agrees; leads = λ h i. absurd (in_none h i) }
closed_is final (h ∷ hs) ts b lo hi agrees holes one =
    let t = slice_index ts h.leaf in
    let p = patch_is b h t holes.0 in
    let k = closed_is final hs ts (with_target_at b h t) lo hi agrees (all_holes_patched b h t hs holes.1) (λ x y i j e f. one x y (in_tail h hs x i) (in_tail h hs y j) e f) in
    let here : lo ≤ h.pc → h.pc < hi → target_in (slice_get final h.pc) h.arm ≡ Some t = λ low high. elim (is_open hs h.pc h.arm) [
      | inl o ↦
          let there = k.leads o.0 o.1 (omega (arith, o.2, low)) (omega (arith, o.2, high)) in
          let way : o.0.leaf ≡ h.leaf = one o.0 h (in_tail h hs o.0 o.1) (0, refl) o.2 o.3 in
          ap (λ n. target_in (slice_get final n) h.arm) (sym o.2) ∙ ap (λ a. target_in (slice_get final o.0.pc) a) (sym o.3) ∙ there ∙ ap (λ n. Some (slice_index ts n)) way
      | inr shut ↦ leads_patched final b h t p (h ∷ hs) hs (in_tail h hs) (0, refl) lo hi k.finishes low high shut
    ] in
    record {
      finishes = finishes_patched final b h t p (h ∷ hs) hs (in_tail h hs) (0, refl) lo hi k.finishes;
      leads = λ x i low high. elim (in_head h hs x i) [
        | inl is ↦ subst (λ (y : Hole). lo ≤ y.pc → y.pc < hi → target_in (slice_get final y.pc) y.arm ≡ Some (slice_index ts y.leaf)) is here low high
        | inr rest ↦ k.leads x rest low high
      ];
    }
