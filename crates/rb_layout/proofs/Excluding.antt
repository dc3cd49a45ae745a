-- The goals that are marked when all is settled are those that have a derivation.
use Rattle.std.proofs.Common.{◌≡◌, ℕ, suc, ◌&&◌, not, List, [], ◌∷◌, Bool, true, false, Some, Result, Ok, Err, refl, sym, subst, ◌∙◌}
use Rattle.std.specs.Prelude.{IfOk, IsTrue, ◌↔◌, if◌then◌else◌}
use Rattle.std.proofs.lemmas.Option.{same_Some}
use Rattle.rb_core.specs.declared.types.DataDecl.{DataDecl}
use Rattle.rb_core.specs.declared.layout_decl.Loc.{Loc}
use Rattle.rb_layout.specs.declared.layout.Leaf.{Leaf}
use Rattle.rb_layout.specs.declared.layout.FlatWord.{FlatWord}
use Rattle.rb_layout.specs.declared.layout.Layout.{Layout}
use Rattle.rb_layout.specs.declared.goals.Literal.{Literal}
use Rattle.rb_layout.specs.declared.goals.Goal.{Goal}
use Rattle.rb_layout.specs.declared.goals.Entry.{Entry}
use Rattle.rb_layout.specs.declared.locate.End.{End}
use Rattle.rb_layout.specs.Words.{flat_at}
use Rattle.rb_layout.specs.Excluded.{Bars, Excludes}
use Rattle.rb_layout.specs.inner.Barring.{position_type, same_goal, knows, word_barred, goal_barred}
use Rattle.rb_layout.specs.inner.Finding.{with_parts, IsGoalOf, AreFresh, AreFound}
use Rattle.rb_layout.specs.inner.Settling.{AreTrue, AreSettled}
use Rattle.rb_layout.proofs.Derivations.{word-bars, PartsIn, BelowIn, bars-found}
use Rattle.rb_layout.proofs.FindLemmas.{first-of, parts-in}
use Rattle.rb_layout.proofs.Ends.{FoundAt}

fresh_case : (e : Entry) (b m : Bool) → e.barred ≡ false → (m ≡ true → ⊥) → (if b then e.barred else m) ≡ true → ⊥
fresh_case e true m fresh rest h = absurd (let x = sym h ∙ fresh in cc)
fresh_case e false m fresh rest h = rest h

not_fresh : (es : List Entry) (g : Goal) → AreFresh es → knows es g ≡ true → ⊥
not_fresh [] g fresh h = absurd cc
not_fresh (e ∷ es) g fresh h = fresh_case e (same_goal e.goal g) (knows es g) (fresh 0 e refl) (not_fresh es g (λ k x is. fresh (suc k) x is)) h

module _ (types : List DataDecl) (layouts : List Layout) where
  marked_or_not : (a b : Bool) → (not a && b) ≡ false → b ≡ true → a ≡ true
  marked_or_not true b none holds = refl
  marked_or_not false b none holds = absurd (let x = sym holds ∙ none in cc)

  settled_at : (found final : List Entry) → AreSettled types layouts found final → (g : Goal) → IsGoalOf found g
      → goal_barred (knows final) types layouts g ≡ true → knows final g ≡ true
  settled_at found final settled g in_found holds =
      let r = first-of final g (settled.keeps g in_found) in
      let none : (not r.entry.barred && goal_barred (knows final) types layouts g) ≡ false =
      subst (λ h. (not r.entry.barred && goal_barred (knows final) types layouts h) ≡ false) r.same (settled.all r.number r.entry r.is_entry) in
      r.tells ∙ marked_or_not r.entry.barred (goal_barred (knows final) types layouts g) none holds

  below_at : (first found : List Entry) → AreFound types layouts first found → (g : Goal) → IsGoalOf found g → BelowIn types layouts (IsGoalOf found) g
  below_at first found is g in_found =
      let r = first-of found g in_found in
      subst (λ h. BelowIn types layouts (IsGoalOf found) h) r.same (is.below r.number r.entry r.is_entry)

  module _ (leaf : Leaf) (f : FlatWord) (x : Literal) (first found final : List Entry) where
    pub decided : first ≡ with_parts (position_type types leaf.prov) x [] f.parts → AreFound types layouts first found → AreSettled types layouts found final
        → IsTrue (word_barred (knows final) (position_type types leaf.prov) x f.parts) ↔ Bars types layouts leaf f x.o x.l x.bits
    decided is are_found are_settled =
        let none : AreTrue types layouts found = λ g h. absurd (not_fresh found g are_found.fresh h) in
        let all = are_settled.true_ones none in
        let parts : PartsIn types layouts (IsGoalOf found) leaf f x = λ k p h is_part e.
        are_found.keeps h (subst (λ es. IsGoalOf es h) (sym is) (parts-in (position_type types leaf.prov) x [] f.parts k p h is_part e)) in (
          λ h. word-bars types layouts (knows final) all leaf f x h,
          λ h. bars-found types layouts (knows final) (IsGoalOf found) (below_at first found are_found) (settled_at found final are_settled) h parts,
        )

-- what holds of a word holds of the location that ends there
pub excluded-at : (types : List DataDecl) (layouts : List Layout) (leaf : Leaf) (loc : Loc) (end : End) (f : FlatWord) (c : ℕ) → FoundAt leaf loc end
    → flat_at leaf end.at ≡ Some f → Bars types layouts leaf f end.o end.l c ↔ Excludes types layouts leaf loc c
excluded-at types layouts leaf loc end f c found is =
    let same : f ≡ found.reached.word = same_Some _ _ (sym is ∙ found.is_word) in (
      λ h. record {
        reached = found.reached;
        resolves = found.is_reached;
        bars = subst (λ l. Bars types layouts leaf found.reached.word found.reached.o l c) found.is_l
            (subst (λ o. Bars types layouts leaf found.reached.word o end.l c) found.is_o (subst (λ u. Bars types layouts leaf u end.o end.l c) same h));
      },
      λ e.
          let at : e.reached ≡ found.reached = same_Some _ _ (sym e.resolves ∙ found.is_reached) in
          let bars : Bars types layouts leaf found.reached.word found.reached.o found.reached.l c =
          subst (λ r. Bars types layouts leaf r.word r.o r.l c) at e.bars in
          subst (λ u. Bars types layouts leaf u end.o end.l c) (sym same)
          (subst (λ o. Bars types layouts leaf found.reached.word o end.l c) (sym found.is_o)
          (subst (λ l. Bars types layouts leaf found.reached.word found.reached.o l c) (sym found.is_l) bars)),
    )

pub iff_ok : {E : Type 0} {P Q : Type 0} (r : Result Bool E) → (P ↔ Q) → IfOk r (λ b. IsTrue b ↔ P) → IfOk r (λ b. IsTrue b ↔ Q)
iff_ok (Ok b) same h = (λ t. same.0 (h.0 t), λ q. h.1 (same.1 q))
iff_ok (Err e) same h = h
