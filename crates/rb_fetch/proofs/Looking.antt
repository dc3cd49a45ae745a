-- What the code of a tree of splits does.
use Rattle.std.proofs.Common.{◌≡◌, ◌≢◌, ℕ, zero, suc, ◌+◌, ◌<◌, ◌≤◌, ◌⊎◌, inl, inr, List, [], ◌∷◌, ◌++◌, length, map, Option, Some, None, refl, sym, subst, ap, ◌∙◌, arith, length-append}
use Rattle.std.specs.Prelude.{slice_get, slice_index, All, IfSome, is_some}
use Rattle.std.specs.Bool.{then_some}
use Rattle.std.proofs.lemmas.List.Elements.{All-nil, All-cons}
use Rattle.std.proofs.lemmas.Option.{slice_get_within, same_Some}
use Rattle.rb_core.specs.declared.layout_decl.Loc.{Loc}
use Rattle.rb_bytes.specs.Memory.{IsGood}
use Rattle.rb_target.specs.declared.instr.SwitchArm.{SwitchArm}
use Rattle.rb_target.specs.declared.instr.Instr.{Instr}
use Rattle.rb_target.specs.declared.instr.Instr.TheVariants.{Jump, Switch}
use Rattle.rb_target.specs.declared.body.Hole.{Hole}
use Rattle.rb_target.specs.Growth.{AgreesBut, Nowhere, Grows, Keeps}
use Rattle.rb_target.specs.Meaning.{Next, taken, with_switch, target_of, after_switch}
use Rattle.rb_target.specs.Sheet.{Sheet, with_more, IsHoleIn, IsHole, with_target_at}
use Rattle.rb_target.specs.Targets.{without_target, without_targets, without_targets_in, target_at, target_in, IsHoleAmong, IsOpenTarget}
use Rattle.rb_target.specs.Validity.{IsTarget}
use Rattle.rb_target.proofs.Finishing.{agrees-sub}
use Rattle.rb_target.proofs.Growing.{Keeps-refl, Keeps-trans, get-append, get-seam}
use Rattle.rb_target.proofs.Shapes.{hole_in, hole_target, switch_shape, jump_shape, arm_hole, else_hole, IsPatched, patch_is, numbers, target_shaped, pick}
use Rattle.rb_layout.specs.declared.layout.FlatTree.{FlatTree, Split, Leaf}
use Rattle.rb_layout.specs.declared.layout.FlatArm.{FlatArm}
use Rattle.rb_rel.specs.Reading.{walk}
use Rattle.rb_fragment.proofs.Adding.{Adds-trans, push_adds}
use Rattle.rb_fragment.proofs.MakingAll.{meant-kept}
use Rattle.rb_fragment.proofs.Patching.{patch_adds, patched_hole, hole_within}
use Rattle.rb_fragment.specs.declared.reads.Read.{Read}
use Rattle.rb_fragment.specs.Plan.{Plan}
use Rattle.rb_fragment.specs.WordReads.{AreMeant, AllFit}
use Rattle.rb_fetch.specs.inner.Fetching.{FetchesAt}
use Rattle.rb_fetch.specs.inner.Looking.{TreeFits, Does, IsLeafHole, AreBefore, Looks, open_arm, open_arms_of, under_arm, under_at, switch_of, SplitDone}
use Rattle.rb_fetch.proofs.LeafNumbers.{leaf_below, under_below}
use Rattle.rb_fetch.proofs.Trees.{AllSmall, literals, walk-Leaf, walked, nested, fit-under, fit-split}

-- Lists of holes

pub in-more : (h x : Hole) (hs : List Hole) → IsHoleAmong h hs → IsHoleAmong h (hs ++ x ∷ [])
in-more h x hs i = let lt = slice_get_within hs i.0 h i.1 in (i.0, get-append hs (x ∷ []) i.0 lt ∙ i.1)

pub in-last : (h : Hole) (hs : List Hole) → IsHoleAmong h (hs ++ h ∷ [])
in-last h hs = (length hs, get-seam hs h [])

pub in-split : (h x : Hole) (hs : List Hole) → IsHoleAmong h (hs ++ x ∷ []) → IsHoleAmong h hs ⊎ (x ≡ h)
in-split h x [] (zero, e) = inr (same_Some x h e)
in-split h x [] (suc k, e) = absurd cc
in-split h x (y ∷ hs) (zero, e) = inl (0, e)
in-split h x (y ∷ hs) (suc k, e) = elim (in-split h x hs (k, e)) [ inl i ↦ inl (suc i.0, i.1) | inr s ↦ inr s ]

open-sub : (hs hs' : List Hole) (q : ℕ) (arm : Option ℕ) → ((h : Hole) → IsHoleAmong h hs' → h.pc ≡ q → h.arm ≡ arm → IsHoleAmong h hs) → IsOpenTarget hs' q arm → IsOpenTarget hs q arm
open-sub hs hs' q arm f o = (o.0, f o.0 o.1 o.2 o.3, o.2, o.3)

widen : (final : List Instr) (next : Next) (words : List Read) (widths : List ℕ) (tree : FlatTree) (hs hs' : List Hole) (n0 top start : ℕ) → ((h : Hole) → IsHoleAmong h hs → IsHoleAmong h hs') → Does final next words widths tree hs n0 top start → Does final next words widths tree hs' n0 top start
widen final next words widths tree hs hs' n0 top start f d = λ s w n ws long good meant small walks.
    let r = d s w n ws long good meant small walks in
    record { hole = r.hole; is_hole = f r.hole r.is_hole; is_way = r.is_way; target = r.target; is_target = r.is_target; slots = r.slots; world = r.world; runs = r.runs; keeps = r.keeps; later = r.later; exit = r.exit }

-- a hole of code is one of longer code
hole_kept : (old new : List Instr) (h : Hole) → Grows old new → IsHole old h → IsHole new h
hole_kept old new h g hole = subst (λ o. IsHoleIn o h.arm) (sym (g.same h.pc (hole_within old h hole))) hole

-- A leaf

pub looks_leaf : (words : List Read) (widths : List ℕ) (n : ℕ) (old : Sheet) (hs0 : List Hole) → let h : Hole = record { pc = length old.code; arm = None; leaf = n } in Looks words widths (Leaf n) old hs0 (with_more old (Jump (length old.code + 1))) (hs0 ++ h ∷ [])
looks_leaf words widths n old hs0 =
    let h : Hole = record { pc = length old.code; arm = None; leaf = n } in
    let pc = length old.code in
    let code = old.code ++ Jump (pc + 1) ∷ [] in
    let len : length code ≡ pc + 1 = length-append old.code (Jump (pc + 1) ∷ []) in
    record {
      more = record {
        old = λ x i. in-more x h hs0 i;
        new = λ x i. elim (in-split x h hs0 i) [ inl j ↦ inl j | inr e ↦ (let at : pc ≡ x.pc = ap (λ (y : Hole). y.pc) e in inr (omega (arith, at), omega (arith, at, len))) ];
      };
      leaves = λ count below x i. elim (in-split x h hs0 i) [
        | inl j ↦ inl j
        | inr e ↦ inr (subst (λ (y : Hole). IsLeafHole count code y) e (leaf_below count n below, subst (λ o. IsHoleIn o None) (sym (get-seam old.code (Jump (pc + 1)) [])) tt))
      ];
      ways = λ below one x y i j at same.
          elim (in-split x h hs0 i) [
            | inl a ↦ elim (in-split y h hs0 j) [
              | inl b ↦ one x y a b at same
              | inr e ↦ (let lt = below x a in let is : pc ≡ y.pc = ap (λ (z : Hole). z.pc) e in absurd (omega (arith, lt, is, at)))
            ]
            | inr d ↦ elim (in-split y h hs0 j) [
              | inl b ↦ (let lt = below y b in let is : pc ≡ x.pc = ap (λ (z : Hole). z.pc) d in absurd (omega (arith, lt, is, at)))
              | inr e ↦ ap (λ (z : Hole). z.leaf) (sym d ∙ e)
            ]
          ];
      adds = λ plan m le all fits. push_adds plan old (Jump (pc + 1)) (record { bounded = tt; slots_fit = tt; targets = (omega arith, omega arith); calls = tt });
      runs = λ plan final callee next n0 top law all le le' fits below fin s w k ws long good meant small walks.
          let a = fin pc (omega arith) (omega (arith, len)) in
          let j = jump_shape (slice_get final pc) (pc + 1) (a.shapes ∙ ap without_targets_in (get-seam old.code (Jump (pc + 1)) [])) in
          record {
            hole = h;
            is_hole = in-last h hs0;
            is_way = same_Some n k (sym (walk-Leaf n ws w.memory) ∙ walks);
            target = j.0;
            is_target = ap (λ o. target_in o None) j.1;
            slots = s;
            world = taken w;
            runs = law.step pc (Jump j.0) s w j.1;
            keeps = Keeps-refl n0 s;
            later = record { memory = refl; left = refl; switches = omega arith };
            exit = tt;
          };
    }

-- Splits

module _ (words : List Read) (widths : List ℕ) (loc : Loc) (arms : List FlatArm) (other : Option FlatTree) (c : Sheet) (slot : ℕ) (hs0 : List Hole) where
  abbrev pc : ℕ
  pc = length c.code

  abbrev switch : Instr
  switch = switch_of c slot arms other

  abbrev Tree : FlatTree
  Tree = Split loc arms other

  abbrev Done : (Option ℕ → Type 0) → Sheet → List Hole → Type 0
  Done D b hs = SplitDone words widths loc arms other c slot hs0 D b hs

  abbrev here : Option ℕ → ℕ → Hole
  here x n = record { pc = pc; arm = x; leaf = n }

  open_length : (t : ℕ) (ys : List FlatArm) → length (open_arms_of t ys) ≡ length ys
  open_length t [] = refl
  open_length t (a ∷ ys) = ap suc (open_length t ys)

  pub arm_within : (ys : List FlatArm) (k : ℕ) (t : FlatTree) → under_arm (slice_get ys k) ≡ Some t → k < length ys
  arm_within [] k t e = absurd cc
  arm_within (a ∷ ys) zero t e = omega arith
  arm_within (a ∷ ys) (suc k) t e = let h = arm_within ys k t e in omega (arith, h)

  -- each arm and the else are holes of the switch
  pub hole_at : (o : Option Instr) (x : Option ℕ) (t : FlatTree) → under_at arms other x ≡ Some t → without_targets_in o ≡ Some (without_targets switch) → IsHoleIn o x
  hole_at o (Some k) t e is = arm_hole o slot (then_some (is_some other) (pc + 1)) (open_arms_of (pc + 1) arms) k is (let h = arm_within arms k t e in let n = open_length (pc + 1) arms in omega (arith, h, n))
  hole_at o None t e is =
      else_hole o slot (pc + 1) (open_arms_of (pc + 1) arms)
      (is ∙ ap (λ (y : Option FlatTree). Some (without_targets (Switch slot (then_some (is_some y) (pc + 1)) (open_arms_of (pc + 1) arms)))) e)

  arms_small : (t : ℕ) (ys : List FlatArm) → AllSmall (literals ys) → All (λ (x : SwitchArm). x.number < 18446744073709551616) (open_arms_of t ys)
  arms_small t [] h = All-nil (λ (x : SwitchArm). x.number < 18446744073709551616)
  arms_small t (a ∷ ys) h = All-cons (λ (x : SwitchArm). x.number < 18446744073709551616) (open_arm t a) (open_arms_of t ys) h.0 (arms_small t ys h.1)

  arms_forward : (q : ℕ) (ys : List FlatArm) → All (λ (x : SwitchArm). IsTarget (q + 1 + 1) q x.target) (open_arms_of (q + 1) ys)
  arms_forward q [] = All-nil (λ (x : SwitchArm). IsTarget (q + 1 + 1) q x.target)
  arms_forward q (a ∷ ys) = All-cons (λ (x : SwitchArm). IsTarget (q + 1 + 1) q x.target) (open_arm (q + 1) a) (open_arms_of (q + 1) ys) (omega arith, omega arith) (arms_forward q ys)

  else_forward : (q : ℕ) (o : Option FlatTree) → IfSome (then_some (is_some o) (q + 1)) (λ t. IsTarget (q + 1 + 1) q t)
  else_forward q None = tt
  else_forward q (Some t) = (omega arith, omega arith)

  -- the switch stands, and no arm is done
  pub split_start : Done (λ x. ⊥) (with_more c switch) hs0
  split_start =
      let len : length (c.code ++ switch ∷ []) ≡ pc + 1 = length-append c.code (switch ∷ []) in
      record {
        fetched = λ q lt. get-append c.code (switch ∷ []) q lt;
        shaped = ap without_targets_in (get-seam c.code switch []);
        long = omega (arith, len);
        more = record { old = λ x i. i; new = λ x i. inl i };
        done = λ h i e. inl i;
        leaves = λ count below h i. inl i;
        ways = λ below one. one;
        adds = λ plan m lt le all fits.
            let f = fit-split (length words) loc arms other fits in
            push_adds plan c switch (record { bounded = arms_small (pc + 1) arms f.2; slots_fit = lt; targets = (else_forward pc other, arms_forward pc arms); calls = tt });
        runs = λ plan final callee next n0 top law all le lts le' fits below shaped targets fin arm tree d at. absurd d;
      }

  -- another name for what is done
  pub split_rename : (D D' : Option ℕ → Type 0) (b : Sheet) (hs : List Hole) → ((x : Option ℕ) → D' x → D x) → ((x : Option ℕ) → D x → D' x) → Done D b hs → Done D' b hs
  split_rename D D' b hs f g d = record {
    fetched = d.fetched;
    shaped = d.shaped;
    long = d.long;
    more = d.more;
    done = λ h i e. elim (d.done h i e) [ inl j ↦ inl j | inr y ↦ inr (g h.arm y) ];
    leaves = d.leaves;
    ways = d.ways;
    adds = d.adds;
    runs = λ plan final callee next n0 top law all le lts le' fits below shaped targets fin arm tree y at.
        d.runs plan final callee next n0 top law all le lts le' fits below shaped (λ z dz no. targets z (g z dz) no) fin arm tree (f arm y) at;
  }

  module _ (D : Option ℕ → Type 0) (b : Sheet) (hs : List Hole) (d : Done D b hs) (x : Option ℕ) (new : D x → ⊥) where
    abbrev D' : Option ℕ → Type 0
    D' y = D y ⊎ (y ≡ x)

    -- a target that leads to a leaf is a hole of that leaf
    pub split_hole : (n : ℕ) → under_at arms other x ≡ Some (Leaf n) → Done D' b (hs ++ here x n ∷ [])
    split_hole n at =
        let h = here x n in
        let hs' : List Hole = hs ++ h ∷ [] in
        record {
          fetched = d.fetched;
          shaped = d.shaped;
          long = d.long;
          more = record {
            old = λ y i. in-more y h hs (d.more.old y i);
            new = λ y i. elim (in-split y h hs i) [ inl j ↦ d.more.new y j | inr e ↦ (let is : pc ≡ y.pc = ap (λ (z : Hole). z.pc) e in inr (omega (arith, is), omega (arith, is, d.long))) ];
          };
          done = λ y i e. elim (in-split y h hs i) [ inl j ↦ elim (d.done y j e) [ inl k ↦ inl k | inr k ↦ inr (inl k) ] | inr s ↦ inr (inr (sym (ap (λ (z : Hole). z.arm) s))) ];
          leaves = λ count below y i. elim (in-split y h hs i) [
            | inl j ↦ d.leaves count below y j
            | inr s ↦ inr (subst (λ (z : Hole). IsLeafHole count b.code z) s (leaf_below count n (under_below count loc arms other x (Leaf n) at below), hole_at (slice_get b.code pc) x (Leaf n) at d.shaped))
          ];
          ways = λ below one y z i j same arm.
              let apart : (k : Hole) → IsHoleAmong k hs → k.pc ≡ pc → k.arm ≡ x → ⊥ =
              (λ k a e e'. elim (d.done k a e) [ inl c0 ↦ (let lt = below k c0 in absurd (omega (arith, lt, e))) | inr q ↦ new (subst D e' q) ]) in
              elim (in-split y h hs i) [
                | inl a ↦ elim (in-split z h hs j) [
                  | inl e ↦ d.ways below one y z a e same arm
                  | inr s ↦ absurd (apart y a (same ∙ sym (ap (λ (q : Hole). q.pc) s)) (arm ∙ sym (ap (λ (q : Hole). q.arm) s)))
                ]
                | inr r ↦ elim (in-split z h hs j) [
                  | inl e ↦ absurd (apart z e (sym same ∙ sym (ap (λ (q : Hole). q.pc) r)) (sym arm ∙ sym (ap (λ (q : Hole). q.arm) r)))
                  | inr s ↦ ap (λ (q : Hole). q.leaf) (sym r ∙ s)
                ]
              ];
          adds = d.adds;
          runs = λ plan final callee next n0 top law all le lts le' fits below shaped targets fin arm tree y is.
              elim y [
                | inl dy ↦
                    let r = d.runs plan final callee next n0 top law all le lts le' fits below shaped
                    (λ z dz no. targets z (inl dz) (λ o. no (open-sub hs hs' pc z (λ k i e1 e2. elim (in-split k h hs i) [ inl j ↦ j | inr s ↦ absurd (new (subst D (sym (ap (λ (q : Hole). q.arm) s ∙ e2)) dz)) ]) o)))
                    (λ q lo hi. agrees-sub final b.code b.code hs hs' q refl (λ z o. open-sub hs hs' q z (λ k i e1 e2. elim (in-split k h hs i) [ inl j ↦ j | inr s ↦ (let p1 : pc ≡ k.pc = ap (λ (q1 : Hole). q1.pc) s in absurd (omega (arith, lo, e1, p1))) ]) o) (fin q lo hi))
                    arm tree dy is in
                    (r.0, r.1, widen final next words widths tree hs hs' n0 top r.0 (λ k i. in-more k h hs i) r.2)
                | inr e ↦
                    let v = hole_in (slice_get final pc) x (hole_at (slice_get final pc) x (Leaf n) at shaped) in
                    let t = hole_target v.0 x v.2 in
                    let go : target_in (slice_get final pc) x ≡ Some t.0 = ap (λ o. target_in o x) v.1 ∙ t.1 in
                    let same : Leaf n ≡ tree = same_Some (Leaf n) tree (sym at ∙ ap (under_at arms other) (sym e) ∙ is) in (
                      t.0,
                      ap (target_in (slice_get final pc)) e ∙ go,
                      subst (λ (u : FlatTree). Does final next words widths u hs' n0 top t.0) same (λ s w k ws long good meant small walks. record {
                        hole = h;
                        is_hole = in-last h hs;
                        is_way = same_Some n k (sym (walk-Leaf n ws w.memory) ∙ walks);
                        target = t.0;
                        is_target = go;
                        slots = s;
                        world = w;
                        runs = refl;
                        keeps = Keeps-refl n0 s;
                        later = record { memory = refl; left = refl; switches = omega arith };
                        exit = tt;
                      }),
                    )
              ];
        }

    -- a target that is set leads to the code of the tree
    module _ (tree : FlatTree) (at : under_at arms other x ≡ Some tree) (b' : Sheet) (hs' : List Hole) (grows : Grows (with_target_at b (here x 0) (length b.code)).code b'.code) (look : Looks words widths tree (with_target_at b (here x 0) (length b.code)) hs b' hs') where
      abbrev e : Sheet
      e = with_target_at b (here x 0) (length b.code)

      p : IsPatched b (here x 0) (length b.code) e
      p = patch_is b (here x 0) (length b.code) (hole_at (slice_get b.code pc) x tree at d.shaped)

      stays : (q : ℕ) → q < length b.code → slice_get b'.code q ≡ slice_get e.code q
      stays q lt = grows.same q (omega (arith, p.long, lt))

      -- the new holes are behind the old code
      behind : (h : Hole) → IsHoleAmong h hs' → h.pc < length b.code → IsHoleAmong h hs
      behind h i lt = elim (look.more.new h i) [ inl j ↦ j | inr r ↦ absurd (omega (arith, p.long, r.0, lt)) ]

      -- slots are added
      mids : (plan : Plan) (n0 : ℕ) → AllFit n0 words → n0 ≤ c.slots → slot < c.slots → TreeFits (length words) Tree → (c.slots ≤ b.slots) × (b.slots ≤ b'.slots)
      mids plan n0 all le lts fits =
          let g = d.adds plan n0 lts le all fits in
          let h = look.adds plan n0 (omega (arith, le, g.more)) all (fit-under (length words) loc arms other x tree at fits) in
          (g.more, h.more)

      pub split_look : Done D' b' hs'
      split_look = record {
        fetched = λ q lt. let ne : q ≢ pc = omega (arith, lt) in stays q (omega (arith, lt, d.long)) ∙ p.elsewhere q ne ∙ d.fetched q lt;
        shaped = ap without_targets_in (stays pc d.long) ∙ p.shapes ∙ d.shaped;
        long = omega (arith, d.long, p.long, grows.longer);
        more = record {
          old = λ h i. look.more.old h (d.more.old h i);
          new = λ h i. elim (look.more.new h i) [
            | inl j ↦ elim (d.more.new h j) [ inl k ↦ inl k | inr r ↦ inr (r.0, omega (arith, r.1, p.long, grows.longer)) ]
            | inr r ↦ inr (omega (arith, r.0, p.long, d.long), r.1)
          ];
        };
        done = λ h i is. elim (d.done h (behind h i (omega (arith, is, d.long))) is) [ inl j ↦ inl j | inr j ↦ inr (inl j) ];
        leaves = λ count below h i. elim (look.leaves count (under_below count loc arms other x tree at below) h i) [
          | inl j ↦ elim (d.leaves count below h j) [
            | inl k ↦ inl k
            | inr k ↦ inr (k.0, hole_kept e.code b'.code h grows (patched_hole b (here x 0) (length b.code) h k.1))
          ]
          | inr k ↦ inr k
        ];
        ways = λ below one. look.ways
            (λ h i. elim (d.more.new h i) [ inl j ↦ (let lt = below h j in omega (arith, lt, d.long, p.long)) | inr r ↦ omega (arith, r.1, p.long) ]) (d.ways below one);
        adds = λ plan m lts le all fits.
            let g = d.adds plan m lts le all fits in
            let g1 = patch_adds plan c b (here x 0) (length b.code) g p (omega arith) d.long (omega arith) in
            Adds-trans plan c e b' g1 (look.adds plan m (omega (arith, le, g.more)) all (fit-under (length words) loc arms other x tree at fits));
        runs = λ plan final callee next n0 top law all le lts le' fits below shaped targets fin arm u y is.
            let shut : (z : Option ℕ) → IsOpenTarget hs' pc z → IsOpenTarget hs pc z = λ z o. open-sub hs hs' pc z (λ k i e1 e2. behind k i (omega (arith, e1, d.long))) o in
            let done_before : IsOpenTarget hs pc x → ⊥ = λ o. elim (d.done o.0 o.1 o.2) [ inl j ↦ (let lt = below o.0 j in absurd (omega (arith, lt, o.2))) | inr j ↦ new (subst D o.3 j) ] in
            elim y [
              | inl dy ↦
                  let mid = mids plan n0 all le lts fits in
                  let top1 : b.slots ≤ top = omega (arith, mid.1, le') in
                  let r = d.runs plan final callee next n0 top law all le lts top1 fits below shaped
                  (λ z dz no. targets z (inl dz) (λ o. no (shut z o)) ∙ ap (λ i. target_in i z) (stays pc d.long) ∙ p.others z (λ s. new (subst D s dz)))
                  (λ q lo hi. let ne : q ≢ pc = omega (arith, lo) in agrees-sub final b.code b'.code hs hs' q (stays q hi ∙ p.elsewhere q ne) (λ z o. open-sub hs hs' q z (λ k i e1 e2. behind k i (omega (arith, e1, hi))) o) (fin q lo (omega (arith, hi, p.long, grows.longer))))
                  arm u dy is in
                  (r.0, r.1, widen final next words widths u hs hs' n0 top r.0 look.more.old r.2)
              | inr s ↦
                  let go : target_in (slice_get final pc) x ≡ Some (length b.code) = targets x (inr refl) (λ o. done_before (shut x o)) ∙ ap (λ i. target_in i x) (stays pc d.long) ∙ p.target in
                  let same : tree ≡ u = same_Some tree u (sym at ∙ ap (under_at arms other) (sym s) ∙ is) in
                  let mid = mids plan n0 all le lts fits in
                  let le1 : n0 ≤ b.slots = omega (arith, le, mid.0) in
                  let ran = look.runs plan final callee next n0 top law all le1 le' (fit-under (length words) loc arms other x tree at fits)
                  (λ h i. elim (d.more.new h i) [ inl j ↦ (let lt = below h j in omega (arith, lt, d.long, p.long)) | inr r ↦ omega (arith, r.1, p.long) ])
                  (λ q lo hi. fin q (omega (arith, lo, p.long, d.long)) hi) in (
                    length b.code,
                    ap (target_in (slice_get final pc)) s ∙ go,
                    subst (λ (v : FlatTree). Does final next words widths v hs' n0 top (length b.code)) same (subst (λ k. Does final next words widths tree hs' n0 top k) p.long ran),
                  )
            ];
      }

  numbers-open : (t : ℕ) (ys : List FlatArm) → numbers (open_arms_of t ys) ≡ literals ys
  numbers-open t [] = refl
  numbers-open t (a ∷ ys) = ap (λ l. a.literal ∷ l) (numbers-open t ys)

  -- where the switch of this code goes for the number of an arm
  switch_goes : (final : List Instr) (a : ℕ) (e : Option ℕ) (list : List SwitchArm) (x value to : ℕ) → x ≡ value → map without_target list ≡ map without_target (open_arms_of (pc + 1) arms) → slice_get final pc ≡ Some (Switch a e list)
      → target_in (slice_get final pc) (pick (literals arms) value) ≡ Some to → target_of list e x ≡ Some to
  switch_goes final a e list x value to is same at leads =
      ap (target_of list e) is ∙ target_shaped a e (open_arms_of (pc + 1) arms) list value same ∙ ap (λ cs. target_at (Switch a e list) (pick cs value)) (numbers-open (pc + 1) arms)
      ∙ sym (ap (λ o. target_in o (pick (literals arms) value)) at) ∙ leads

  -- all is done
  pub split_looks : (old : Sheet) → FetchesAt words widths loc old c slot → Grows old.code c.code → (D : Option ℕ → Type 0) (b : Sheet) (hs : List Hole) → Done D b hs
      → ((x : Option ℕ) (t : FlatTree) → under_at arms other x ≡ Some t → D x) → Looks words widths Tree old hs0 b hs
  split_looks old fetches grown D b hs d covers =
      let low = grown.longer in
      record {
        more = record { old = d.more.old; new = λ h i. elim (d.more.new h i) [ inl j ↦ inl j | inr r ↦ inr (omega (arith, r.0, low), r.1) ] };
        leaves = d.leaves;
        ways = λ below one. d.ways (λ h i. let lt = below h i in omega (arith, lt, low)) one;
        adds = λ plan m le all fits.
            let f = fit-split (length words) loc arms other fits in
            let st = fetches plan m le all f.1 f.0 in
            Adds-trans plan old c b st.adds (d.adds plan m st.given (omega (arith, le, st.adds.more)) all fits);
        runs = λ plan final callee next n0 top law all le le' fits below fin s w n ws long good meant small walks.
            let wk = walked loc arms other ws w.memory n walks in
            let f = fit-split (length words) loc arms other fits in
            let st = fetches plan n0 le all f.1 f.0 in
            let more : old.slots ≤ c.slots = st.adds.more in
            let more1 = (d.adds plan n0 st.given (omega (arith, le, more)) all fits).more in
            let below1 : AreBefore pc hs0 = (λ h i. let lt = below h i in omega (arith, lt, low)) in
            let agrees : AgreesBut final c.code (length old.code) pc Nowhere = record {
              same = λ q lo hi out. (fin q lo (omega (arith, hi, d.long))).same (λ arm o. elim (d.more.new o.0 o.1) [ inl j ↦ (let lt = below o.0 j in let z = o.2 in omega (arith, lt, z, lo)) | inr r ↦ (let z = o.2 in omega (arith, r.0, z, hi)) ]) ∙ d.fetched q hi;
            } in
            let r = (st.runs ws wk.value small).runs final callee next law agrees s w (omega (arith, more1, le', long)) (good, meant, wk.is_read) in
            let s1 = r.1 in
            let w1 = with_switch (taken r.2) in
            let a = fin pc low d.long in
            let shaped = a.shapes ∙ d.shaped in
            let sw = switch_shape (slice_get final pc) slot (then_some (is_some other) (pc + 1)) (open_arms_of (pc + 1) arms) shaped in
            let arm = pick (literals arms) wk.value in
            let ld = d.runs plan final callee next n0 top law all (omega (arith, le, more)) st.given le' fits below1 shaped (λ z dz no. a.targets z no) (λ q lo hi. fin q (omega (arith, lo, low)) hi) arm wk.tree (covers arm wk.tree wk.is_tree) wk.is_tree in
            let goes : target_of sw.list sw.other (slice_index s1 slot) ≡ Some ld.0 =
            switch_goes final slot sw.other sw.list (slice_index s1 slot) wk.value ld.0 r.6.1 sw.same sw.is ld.1 in
            let came : next (length old.code) s w ≡ next pc s1 r.2 = ◌∙◌ {a = next (length old.code) s w} {b = next r.0 s1 r.2} {c = next pc s1 r.2} r.3 (ap (λ q. next q s1 r.2) r.6.0) in
            let ran : next pc s1 r.2 ≡ next ld.0 s1 w1 =
            ◌∙◌ {a = next pc s1 r.2} {b = after_switch (target_of sw.list sw.other (slice_index s1 slot)) (slice_index s1 slot) w1 (λ t. next t s1 w1)} {c = next ld.0 s1 w1}
            (law.step pc (Switch slot sw.other sw.list) s1 r.2 sw.is) (ap (λ o. after_switch o (slice_index s1 slot) w1 (λ t. next t s1 w1)) goes) in
            let kept : Keeps n0 s s1 = record { long = r.4.long; same = λ i lt. r.4.same i (omega (arith, lt, le)) } in
            let meant1 : AreMeant words s1 r.2.memory ws = subst (λ m. AreMeant words s1 m ws) (sym r.5.memory) (meant-kept n0 s s1 w.memory kept words ws all meant) in
            let out = ld.2 s1 w1 n ws (omega (arith, long, r.4.long)) (subst IsGood (sym r.5.memory) good) meant1 small (ap (λ m. walk wk.tree ws m) r.5.memory ∙ wk.walks) in
            let deep = nested loc arms other arm wk.tree wk.is_tree in
            record {
              hole = out.hole;
              is_hole = out.is_hole;
              is_way = out.is_way;
              target = out.target;
              is_target = out.is_target;
              slots = out.slots;
              world = out.world;
              runs = ◌∙◌ {a = next (length old.code) s w} {b = next ld.0 s1 w1} {c = next out.target out.slots out.world} (◌∙◌ {a = next (length old.code) s w} {b = next pc s1 r.2} {c = next ld.0 s1 w1} came ran) out.runs;
              keeps = Keeps-trans n0 n0 s s1 out.slots (omega arith) (record { long = r.4.long; same = λ k lt. r.4.same k (omega (arith, lt, le)) }) out.keeps;
              later = record { memory = ◌∙◌ {a = out.world.memory} {b = r.2.memory} {c = w.memory} out.later.memory r.5.memory; left = ◌∙◌ {a = out.world.left} {b = r.2.left} {c = w.left} out.later.left r.5.left; switches = omega (arith, out.later.switches, r.5.switches, deep) };
              exit = tt;
            };
      }
