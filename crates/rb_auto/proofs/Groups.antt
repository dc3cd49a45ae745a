-- Groups of 64 words, taken off one after the other.
use Rattle.std.proofs.Common.{◌≡◌, ℕ, zero, suc, ◌+◌, ◌-◌, ◌<◌, ◌≤◌, inl, inr, List, [], ◌∷◌, ◌++◌, length, map, take, drop, refl, sym, ap, ◌∙◌, arith, append_assoc}
use Rattle.std.specs.Prelude.{min}
use Rattle.std.proofs.lemmas.Bool.{cases_lt}
use Rattle.std.proofs.lemmas.List.{append-nil, take_all, drop_all}
use Rattle.rb_core.specs.declared.layout_decl.LayItem.{LayItem}
use Rattle.rb_auto.specs.declared.field_words.FieldWord.{FieldWord}
use Rattle.rb_auto.specs.Items.{groups, group_item}

take-min : {A : Type 0} (ws : List A) (m : ℕ) → m ≡ min (length ws) 64 → take m ws ≡ take 64 ws
take-min ws m e = elim (cases_lt 64 (length ws)) [
  | inl lt ↦ (let same : m ≡ 64 = omega (arith, lt, e) in ap (λ k. take k ws) same)
  | inr le ↦ (let all : length ws ≤ m = omega (arith, le, e) in take_all m ws all ∙ sym (take_all 64 ws le))
]

drop-min : {A : Type 0} (ws : List A) (m : ℕ) → m ≡ min (length ws) 64 → drop m ws ≡ drop 64 ws
drop-min ws m e = elim (cases_lt 64 (length ws)) [
  | inl lt ↦ (let same : m ≡ 64 = omega (arith, lt, e) in ap (λ k. drop k ws) same)
  | inr le ↦ (let all : length ws ≤ m = omega (arith, le, e) in drop_all m ws all ∙ sym (drop_all 64 ws le))
]

pub empty-list : (ws : List FieldWord) → length ws ≡ 0 → ws ≡ []
empty-list [] e = refl
empty-list (w ∷ ws) e = absurd (omega (arith, e))

none : (n : ℕ) → groups {A = FieldWord} n [] ≡ []
none zero = refl
none (suc n) = refl

pub groups-end : (n : ℕ) (items : List LayItem) (rest : List FieldWord) (whole : List LayItem) → rest ≡ [] → items ++ map group_item (groups n rest) ≡ whole → items ≡ whole
groups-end n items rest whole empty h =
    sym (append-nil items) ∙ ap (λ (gs : List (List FieldWord)). items ++ map group_item gs) (sym (ap (groups n) empty ∙ none n)) ∙ h

pub groups-out : (total turn : ℕ) (items : List LayItem) (rest : List FieldWord) (whole : List LayItem) → total ≤ turn → items ++ map group_item (groups (total - turn) rest) ≡ whole → items ≡ whole
groups-out total turn items rest whole le h =
    let zero_left : total - turn ≡ 0 = omega arith in
    sym (append-nil items) ∙ ap (λ n. items ++ map group_item (groups n rest)) (sym zero_left) ∙ h

one-group : (n : ℕ) (rest : List FieldWord) → (rest ≡ [] → ⊥) → groups (suc n) rest ≡ take 64 rest ∷ groups n (drop 64 rest)
one-group n [] some = absurd (some refl)
one-group n (w ∷ ws) some = refl

pub groups-next : (total turn m : ℕ) (items more : List LayItem) (rest group left : List FieldWord) (item : LayItem) (whole : List LayItem) → turn < total → (rest ≡ [] → ⊥)
    → m ≡ min (length rest) 64 → group ≡ take m rest → left ≡ drop m rest → item ≡ group_item group → more ≡ items ++ item ∷ []
    → items ++ map group_item (groups (total - turn) rest) ≡ whole → more ++ map group_item (groups (total - (turn + 1)) left) ≡ whole
groups-next total turn m items more rest group left item whole lt some is_min is_group is_left is_item is_more h =
    let less : total - turn ≡ suc (total - (turn + 1)) = omega arith in
    let n = total - (turn + 1) in
    let first : item ≡ group_item (take 64 rest) = is_item ∙ ap group_item (is_group ∙ take-min rest m is_min) in
    let then : left ≡ drop 64 rest = is_left ∙ drop-min rest m is_min in
    ap (λ (xs : List LayItem). xs ++ map group_item (groups n left)) is_more
    ∙ append_assoc items (item ∷ []) (map group_item (groups n left))
    ∙ ap (λ (x : LayItem). items ++ (x ∷ map group_item (groups n left))) first
    ∙ ap (λ (ws : List FieldWord). items ++ (group_item (take 64 rest) ∷ map group_item (groups n ws))) then
    ∙ ap (λ (gs : List (List FieldWord)). items ++ map group_item gs) (sym (one-group n rest some))
    ∙ ap (λ k. items ++ map group_item (groups k rest)) (sym less)
    ∙ h
