-- The steps of the code that looks: its switch, each arm, the else.
use Rattle.std.proofs.Common.{◌≡◌, ◌≢◌, ℕ, ◌+◌, ◌<◌, ◌≤◌, ◌⊎◌, inl, inr, List, [], ◌∷◌, ◌++◌, length, Option, Some, None, refl, sym, subst, ap, ◌∙◌, arith}
use Rattle.std.specs.Prelude.{slice_get}
use Rattle.std.proofs.lemmas.Option.{same_Some}
use Rattle.rb_core.specs.declared.layout_decl.Loc.{Loc}
use Rattle.rb_target.specs.declared.body.Hole.{Hole}
use Rattle.rb_target.specs.Growth.{Grows}
use Rattle.rb_target.specs.Sheet.{Sheet, with_more, IsHole, with_target_at}
use Rattle.rb_target.proofs.Growing.{below_or, Grows-trans, Grows-append}
use Rattle.rb_target.proofs.Shapes.{patch_is}
use Rattle.rb_layout.specs.declared.layout.FlatTree.{FlatTree, Split, Leaf}
use Rattle.rb_layout.specs.declared.layout.FlatArm.{FlatArm}
use Rattle.rb_fragment.specs.declared.reads.Read.{Read}
use Rattle.rb_fetch.specs.inner.Fetching.{FetchesAt}
use Rattle.rb_fetch.specs.inner.Looking.{Looks, under_arm, under_at, switch_of, IsBefore, ArmsDone}
use Rattle.rb_fetch.proofs.Looking.{hole_at, split_start, split_rename, split_hole, split_look, split_looks, arm_within}

before_more : (k : ℕ) (x : Option ℕ) → IsBefore (k + 1) x → IsBefore k x ⊎ (x ≡ Some k)
before_more k None h = absurd h
before_more k (Some j) h = elim (below_or j k) [ inl lt ↦ inl lt | inr le ↦ (let e : j ≡ k = omega (arith, h, le) in inr (ap Some e)) ]

before_less : (k : ℕ) (x : Option ℕ) → IsBefore k x ⊎ (x ≡ Some k) → IsBefore (k + 1) x
before_less k None (inl h) = absurd h
before_less k None (inr e) = absurd cc
before_less k (Some j) (inl h) = omega (arith, h)
before_less k (Some j) (inr e) = let s = same_Some j k e in omega (arith, s)

module _ (words : List Read) (widths : List ℕ) (tree : FlatTree) (arms : List FlatArm) (other : Option FlatTree) (old : Sheet) (hs0 : List Hole) where
  pub looks_start : (loc : Loc) (c : Sheet) (slot pc : ℕ) → tree ≡ Split loc arms other → FetchesAt words widths loc old c slot → Grows old.code c.code → pc ≡ length c.code
      → ArmsDone words widths tree arms other old hs0 pc 0 (with_more c (switch_of c slot arms other)) hs0
  looks_start loc c slot pc is fetches grown at = record {
    grows = Grows-trans _ _ _ grown (Grows-append _ _);
    loc = loc;
    is_tree = is;
    fetched = c;
    slot = slot;
    fetches = fetches;
    longer = grown;
    at = at;
    done = split_rename words widths loc arms other c slot hs0 (λ x. ⊥) (IsBefore 0) _ hs0 none (λ x h. absurd h) (split_start words widths loc arms other c slot hs0);
  }
    where
      none : (x : Option ℕ) → IsBefore 0 x → ⊥
      none None h = h
      none (Some j) h = omega (arith, h)

  module _ (pc k : ℕ) (b : Sheet) (hs : List Hole) (d : ArmsDone words widths tree arms other old hs0 pc k b hs) where
    pub arm_is_hole : (a : FlatArm) → slice_get arms k ≡ Some a → let h : Hole = record { pc = pc; arm = Some k; leaf = 0 } in IsHole b.code h
    arm_is_hole a at = subst (λ q. let h : Hole = record { pc = q; arm = Some k; leaf = 0 } in IsHole b.code h) (sym d.at) (hole_at words widths d.loc arms other d.fetched d.slot hs0 (slice_get b.code (length d.fetched.code)) (Some k) a.under (ap under_arm at) d.done.shaped)

    pub is_before : pc < length b.code
    is_before = omega (arith, d.at, d.done.long)

    fresh : IsBefore k (Some k) → ⊥
    fresh lt = omega (arith, lt)

    pub arm_leaf : (a : FlatArm) (n : ℕ) → slice_get arms k ≡ Some a → a.under ≡ Leaf n → let h : Hole = record { pc = pc; arm = Some k; leaf = n } in ArmsDone words widths tree arms other old hs0 pc (k + 1) b (hs ++ h ∷ [])
    arm_leaf a n at leaf = subst (λ q. let h : Hole = record { pc = q; arm = Some k; leaf = n } in ArmsDone words widths tree arms other old hs0 q (k + 1) b (hs ++ h ∷ [])) (sym d.at) (record {
      grows = d.grows;
      loc = d.loc;
      is_tree = d.is_tree;
      fetched = d.fetched;
      slot = d.slot;
      fetches = d.fetches;
      longer = d.longer;
      at = refl;
      done = split_rename words widths d.loc arms other d.fetched d.slot hs0 (λ x. IsBefore k x ⊎ (x ≡ Some k)) (IsBefore (k + 1)) b _ (before_more k) (before_less k)
          (split_hole words widths d.loc arms other d.fetched d.slot hs0 (IsBefore k) b hs d.done (Some k) fresh n (ap under_arm at ∙ ap Some leaf));
    })

    patched_grows : (h : Hole) (c : Sheet) (hs' : List Hole) → length old.code ≤ h.pc → IsHole b.code h → Grows (with_target_at b h (length b.code)).code c.code → Grows old.code c.code
    patched_grows h c hs' low hole g =
        let p = patch_is b h (length b.code) hole in
        record {
          longer = omega (arith, d.grows.longer, p.long, g.longer);
          same = λ q lt. let ne : q ≢ h.pc = omega (arith, lt, low) in let in1 : q < length (with_target_at b h (length b.code)).code = omega (arith, lt, d.grows.longer, p.long) in g.same q in1 ∙ p.elsewhere q ne ∙ d.grows.same q lt;
        }

    from_low : length old.code ≤ length d.fetched.code
    from_low = d.longer.longer

    pub arm_look : (a : FlatArm) (c : Sheet) (hs' : List Hole) → slice_get arms k ≡ Some a
        → let h : Hole = record { pc = pc; arm = Some k; leaf = 0 } in Grows (with_target_at b h (length b.code)).code c.code → Looks words widths a.under (with_target_at b h (length b.code)) hs c hs' → ArmsDone words widths tree arms other old hs0 pc (k + 1) c hs'
    arm_look a c hs' at =
        subst (λ q. let h : Hole = record { pc = q; arm = Some k; leaf = 0 } in Grows (with_target_at b h (length b.code)).code c.code → Looks words widths a.under (with_target_at b h (length b.code)) hs c hs' → ArmsDone words widths tree arms other old hs0 q (k + 1) c hs') (sym d.at)
        (λ g look.
        let h : Hole = record { pc = length d.fetched.code; arm = Some k; leaf = 0 } in
        record {
          grows = patched_grows h c hs' from_low (subst (λ q. let x : Hole = record { pc = q; arm = Some k; leaf = 0 } in IsHole b.code x) d.at (arm_is_hole a at)) g;
          loc = d.loc;
          is_tree = d.is_tree;
          fetched = d.fetched;
          slot = d.slot;
          fetches = d.fetches;
          longer = d.longer;
          at = refl;
          done = split_rename words widths d.loc arms other d.fetched d.slot hs0 (λ x. IsBefore k x ⊎ (x ≡ Some k)) (IsBefore (k + 1)) c hs' (before_more k) (before_less k)
              (split_look words widths d.loc arms other d.fetched d.slot hs0 (IsBefore k) b hs d.done (Some k) fresh a.under (ap under_arm at) c hs' g look);
        })

    -- the else
    pub else_is_hole : (u : FlatTree) → other ≡ Some u → let h : Hole = record { pc = pc; arm = None; leaf = 0 } in IsHole b.code h
    else_is_hole u at = subst (λ q. let h : Hole = record { pc = q; arm = None; leaf = 0 } in IsHole b.code h) (sym d.at) (hole_at words widths d.loc arms other d.fetched d.slot hs0 (slice_get b.code (length d.fetched.code)) None u at d.done.shaped)

    module _ (all : k ≡ length arms) where
      in_arms : (x : Option ℕ) (t : FlatTree) → under_at arms other x ≡ Some t → IsBefore k x ⊎ (x ≡ None)
      in_arms None t e = inr refl
      in_arms (Some j) t e = let h = arm_within words widths d.loc arms other d.fetched d.slot hs0 arms j t e in inl (omega (arith, h, all))

      pub no_else : other ≡ None → Looks words widths tree old hs0 b hs
      no_else none = subst (λ (u : FlatTree). Looks words widths u old hs0 b hs) (sym d.is_tree) (split_looks words widths d.loc arms other d.fetched d.slot hs0 old d.fetches d.longer (IsBefore k) b hs d.done (λ x t e. elim (in_arms x t e) [ inl h ↦ h | inr s ↦ absurd (let q = ap (under_at arms other) (sym s) ∙ e in cc) ]))

      pub else_leaf : (n : ℕ) → other ≡ Some (Leaf n) → let h : Hole = record { pc = pc; arm = None; leaf = n } in Looks words widths tree old hs0 b (hs ++ h ∷ [])
      else_leaf n at = subst (λ q. let h : Hole = record { pc = q; arm = None; leaf = n } in Looks words widths tree old hs0 b (hs ++ h ∷ [])) (sym d.at)
          (subst (λ (u : FlatTree). let h : Hole = record { pc = length d.fetched.code; arm = None; leaf = n } in Looks words widths u old hs0 b (hs ++ h ∷ [])) (sym d.is_tree)
          (split_looks words widths d.loc arms other d.fetched d.slot hs0 old d.fetches d.longer (λ x. IsBefore k x ⊎ (x ≡ None)) b _ (split_hole words widths d.loc arms other d.fetched d.slot hs0 (IsBefore k) b hs d.done None (λ h. h) n at) in_arms))

      pub else_look : (u : FlatTree) (c : Sheet) (hs' : List Hole) → other ≡ Some u
          → let h : Hole = record { pc = pc; arm = None; leaf = 0 } in Grows (with_target_at b h (length b.code)).code c.code → Looks words widths u (with_target_at b h (length b.code)) hs c hs' → Grows old.code c.code × Looks words widths tree old hs0 c hs'
      else_look u c hs' at =
          subst (λ q. let h : Hole = record { pc = q; arm = None; leaf = 0 } in Grows (with_target_at b h (length b.code)).code c.code → Looks words widths u (with_target_at b h (length b.code)) hs c hs' → Grows old.code c.code × Looks words widths tree old hs0 c hs') (sym d.at)
          (λ g look.
          let h : Hole = record { pc = length d.fetched.code; arm = None; leaf = 0 } in (
            patched_grows h c hs' from_low (subst (λ q. let x : Hole = record { pc = q; arm = None; leaf = 0 } in IsHole b.code x) d.at (else_is_hole u at)) g,
            subst (λ (v : FlatTree). Looks words widths v old hs0 c hs') (sym d.is_tree)
                (split_looks words widths d.loc arms other d.fetched d.slot hs0 old d.fetches d.longer (λ x. IsBefore k x ⊎ (x ≡ None)) c hs' (split_look words widths d.loc arms other d.fetched d.slot hs0 (IsBefore k) b hs d.done None (λ h1. h1) u at c hs' g look) in_arms),
          ))
