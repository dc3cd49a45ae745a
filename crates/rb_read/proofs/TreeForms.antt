-- Trees of layouts.
use Rattle.std.proofs.Common.{◌≡◌, ℕ, zero, suc, ◌+◌, ◌-◌, List, [], ◌∷◌, map, length, Bool, true, false, nat_lt, Option, Some, None, is_some, refl, ◌∙◌, ap, subst, arith}
use Rattle.std.proofs.lemmas.Grind.{common_steps}
use Rattle.rb_core.specs.declared.layout_decl.Loc.{Loc}
use Rattle.rb_core.specs.declared.layout_decl.LayItem.{LayItem}
use Rattle.rb_syntax.specs.declared.token.ReservedWord.{ReservedWord}
use Rattle.rb_syntax.specs.declared.token.ReservedWord.TheVariants as word
use Rattle.rb_syntax.specs.declared.token.Symbol.TheVariants as symbol
use Rattle.rb_syntax.specs.declared.token.Token.{Token}
use Rattle.rb_syntax.specs.declared.token.Token.TheVariants as tok
use Rattle.rb_syntax.specs.declared.tree.NameTree.{NameTree}
use Rattle.rb_syntax.specs.declared.tree.PatTree.{PatTree}
use Rattle.rb_syntax.specs.declared.tree.PatTree as P
use Rattle.rb_syntax.specs.declared.tree.ArmTree.{ArmTree}
use Rattle.rb_syntax.specs.declared.tree.SplitTree.{SplitTree, out-SplitTree, roll-out-SplitTree}
use Rattle.rb_syntax.specs.declared.tree.SplitTree as S
use Rattle.rb_syntax.specs.declared.tree.SplitTree.TheOpen as split
use Rattle.rb_syntax.specs.declared.tree.SplitTree.TheOpen.{SplitTree-F}
use Rattle.rb_syntax.specs.Written.{Written, Writing, token, number, node, flaw, tokens_in, each, some_with}
use Rattle.rb_syntax.specs.Spelling.{num, fields_written, below_written, prov_written, loc_written, split_written, arm_written}
use Rattle.rb_syntax.proofs.SpellingLemmas.{arm-is, split-Leaf, split-None, split-Some}
use Rattle.rb_syntax.proofs.LayoutSpelling.{below-Var, below-Num}
use Rattle.rb_read.specs.inner.Starting.{is_word, is_number}
use Rattle.rb_read.specs.inner.Combining.{Reader, pair, expect, closed_by, optional, some_closed, each_of, beyond}
use Rattle.rb_read.specs.inner.Tokens as tokens
use Rattle.rb_read.proofs.Open.{Open, one, maybe, many, first, next, the, the_word, a_number, a_range, begins, if_so, ahead_of}
use Rattle.rb_read.proofs.Open as open_at
use Rattle.rb_read.specs.inner.Reading.{begins_tree, arm_tree, else_arrow, else_tree, other_arm, branches, split_rest, leaf, tree_by, layout_tree, location, lay_item_tree, provenance, arm_of, else_of, leaf_of, split_of}
use Rattle.rb_read.proofs.Forms.{IsRight, Again, Clear, IsForm}
use Rattle.rb_read.proofs.FormLaws.{IsStrict, all-clear, pair-form, first-strict, iso-form, into-strict, alias-form}
use Rattle.rb_read.proofs.NodeForms.{AtToken, IsPart, part-form, none-at, node-at, node-again, whole-at, whole-again, IsDeep, IsDeepBegun, zero-form}
use Rattle.rb_read.proofs.TokenForms.{symbol-part, word-part, number-part}
use Rattle.rb_read.proofs.TypeForms.{opens_paren, before-any, closed_by-form, closed_by-strict}
use Rattle.rb_read.proofs.ListForms.{perhaps, some_closed-form, optional-form, each-form}
use Rattle.rb_read.proofs.PatternForms.{by_form, at_level-map, within, not-within, below-con-written, provenance-part}
use Rattle.rb_read.proofs.LocationForms.{location-form}
use Rattle.rb_read.proofs.LeafForms.{at_item, item-part}

abbrev none : Token → Bool
none t = false

abbrev pub at_tree : ℕ → SplitTree → Writing
at_tree l t rest = split_written t l rest

abbrev at_arm : ℕ → ArmTree → Writing
at_arm l a rest = arm_written a l rest

-- a tree form by form
tree_by_form : (Q : SplitTree → Type 0) → ((loc : Loc) (arms : List ArmTree) (other : Option SplitTree) → Q (S.Split loc arms other))
    → ((at : ℕ) (p : PatTree) (items : List LayItem) → Q (S.Leaf at p items)) → (t : SplitTree) → Q t
unfolding S.roll-SplitTree denote.Hole.Carrier.roll
tree_by_form Q on_split on_leaf t = subst Q (roll-out-SplitTree t) (layer (out-SplitTree t)) where
  layer : (x : SplitTree-F SplitTree ArmTree) → Q (S.roll-SplitTree x)
  layer (split.Split loc arms other) = on_split loc arms other
  layer (split.Leaf at p items) = on_leaf at p items

abbrev else_behind : ℕ → SplitTree → Writing
else_behind l t rest = token (tok.Reserved word.Else) ∷ token (tok.Symbol symbol.FatArrow) ∷ split_written t l rest

split-written : (loc : Loc) (arms : List ArmTree) (other : Option SplitTree) (l : ℕ) (rest : List Written) → split_written (S.Split loc arms other) l rest
    ≡ node l ∷ token (tok.Reserved word.Split) ∷ loc_written loc (token (tok.Symbol symbol.OpenBrace)
    ∷ each (map (at_arm (suc l)) arms) (perhaps (else_behind (suc l)) other (token (tok.Symbol symbol.CloseBrace) ∷ rest)))
split-written loc arms None l rest = split-None loc arms l rest
    ∙ ap (λ ws. node l ∷ token (tok.Reserved word.Split) ∷ loc_written loc (token (tok.Symbol symbol.OpenBrace) ∷ each ws (token (tok.Symbol symbol.CloseBrace) ∷ rest)))
    (at_level-map arm_written (suc l) arms)
split-written loc arms (Some other) l rest = split-Some loc arms other l rest
    ∙ ap (λ ws. node l ∷ token (tok.Reserved word.Split) ∷ loc_written loc (token (tok.Symbol symbol.OpenBrace) ∷ each ws (else_behind (suc l) other (token (tok.Symbol symbol.CloseBrace) ∷ rest))))
    (at_level-map arm_written (suc l) arms)

abbrev items_written : ℕ → List LayItem → Writing
items_written l items rest = token (tok.Symbol symbol.Colon) ∷ token (tok.Symbol symbol.OpenBrace)
    ∷ some_with (tok.Symbol symbol.Comma) (map (at_item l) items) (token (tok.Symbol symbol.CloseBrace) ∷ rest)

leaf-written : (at : ℕ) (p : PatTree) (items : List LayItem) (l : ℕ) (rest : List Written) → split_written (S.Leaf at p items) l rest
    ≡ node l ∷ number at ∷ prov_written p (suc l) (items_written (suc l) items rest)
leaf-written at p items l rest = split-Leaf at p items l rest

-- a provenance that is right is a constructor
constructor-of : (Q : PatTree → Type 0) (total l : ℕ) (rest : List Written) → ((at : ℕ) (x : NameTree) (ps : List PatTree) → Q (P.Con at x ps))
    → (p : PatTree) → IsRight total (prov_written p l rest) → Q p
unfolding P.roll-PatTree denote.Hole.Carrier.roll P.out-PatTree denote.Hole.Carrier.out
constructor-of Q total l rest con = by_form (λ p. IsRight total (prov_written p l rest) → Q p)
    (λ at i. absurd i.0)
    (λ at x i. let j : IsRight total (flaw ∷ rest) = subst (λ ws. IsRight total ws) (below-Var at x l rest) i in absurd j.0)
    (λ at n i. let j : IsRight total (flaw ∷ rest) = subst (λ ws. IsRight total ws) (below-Num at n l rest) i in absurd j.0)
    (λ at x ps i. con at x ps)

prov-con-written : (at : ℕ) (x : NameTree) (ps : List PatTree) (l : ℕ) (rest : List Written) → prov_written (P.Con at x ps) l rest
    ≡ node l ∷ number at ∷ number x.at ∷ token (tok.Upper x.text) ∷ fields_written (map (λ p. below_written p (suc l)) ps) rest
unfolding P.roll-PatTree denote.Hole.Carrier.roll P.out-PatTree denote.Hole.Carrier.out
prov-con-written at x ps l rest = below-con-written at x ps l rest

-- With no level left.

tree-zero : (total limit l : ℕ) → l + 0 ≡ suc limit → IsPart total limit none (open_at.tree l) (at_tree l) (λ ts. beyond begins_tree ts)
unfolding begins
tree-zero total limit l e = zero-form begins_tree deeper nothing_begun begun where
  deep : nat_lt limit l ≡ true
  deep = not-within limit l e

  deeper-next : nat_lt limit (suc l) ≡ true
  deeper-next = grind (arith, common_steps, e)

  deeper : (t : Token) → begins_tree t ≡ true → IsDeep limit (begins (open_at.tree l) t)
  deeper (tok.Upper x) h = deeper-next
  deeper (tok.Reserved word.Split) h = deep
  deeper _ h = cc

  nothing_begun : (t : Token) → begins_tree t ≡ false → begins (open_at.tree l) t ≡ None
  nothing_begun (tok.Upper x) h = cc
  nothing_begun (tok.Reserved word.Split) h = cc
  nothing_begun _ h = refl

  leaf-begun : (at : ℕ) (p : PatTree) (items : List LayItem) (rest : List Written) → IsRight total (at_tree l (S.Leaf at p items) rest)
      → IsDeepBegun limit begins_tree (at_tree l (S.Leaf at p items) rest)
  leaf-begun at p items rest i =
      let vs : List Written = items_written (suc l) items rest in
      let j : IsRight total (node l ∷ number at ∷ prov_written p (suc l) vs) = subst (λ ws. IsRight total ws) (leaf-written at p items l rest) i in
      constructor-of (λ q. IsDeepBegun limit begins_tree (at_tree l (S.Leaf at q items) rest)) total (suc l) vs
      (λ m x ps. record {
        marks = node l ∷ number at ∷ node (suc l) ∷ number m ∷ number x.at ∷ [];
        first = tok.Upper x.text;
        others = _;
        whole = leaf-written at (P.Con m x ps) items l rest ∙ ap (λ ws. node l ∷ number at ∷ ws) (prov-con-written m x ps (suc l) vs);
        are_marks = tt;
        is_deep = rw deep refl;
        passes = refl;
      })
      p (j.0, j.1.1)

  begun : (t : SplitTree) (rest : List Written) → IsRight total (at_tree l t rest) → IsDeepBegun limit begins_tree (at_tree l t rest)
  begun t rest = tree_by_form (λ q. IsRight total (at_tree l q rest) → IsDeepBegun limit begins_tree (at_tree l q rest))
      (λ loc arms other i. record { marks = node l ∷ []; first = tok.Reserved word.Split; others = _; whole = split-written loc arms other l rest; are_marks = tt; is_deep = rw deep refl; passes = refl })
      (λ at p items i. leaf-begun at p items rest i)
      t

-- A tree above readers of the trees in it.

by_word : (w : ReservedWord) (os : List Open) (t : Token) → if_so (is_word w t) os ≡ ahead_of os (if_so (is_word w t) [])
by_word w os t = by_test (is_word w t) where
  by_test : (b : Bool) → if_so b os ≡ ahead_of os (if_so b [])
  by_test true = refl
  by_test false = refl

is-so : (b : Bool) (os : List Open) → is_some (if_so b os) ≡ b
is-so true os = refl
is-so false os = refl

abbrev is_else : Token → Bool
is_else t = is_word word.Else t

module _ (total limit l n : ℕ) (fits : l + suc n ≡ suc limit) {inner : Reader SplitTree} (tree-in : IsPart total limit none (open_at.tree (suc l)) (at_tree (suc l)) inner) where
  small : nat_lt limit l ≡ false
  small = within limit l n fits

  literal-form : IsForm total limit none (one a_number ∷ one (the symbol.FatArrow) ∷ []) (λ n rest. num n ∷ token (tok.Symbol symbol.FatArrow) ∷ rest)
      (closed_by tokens.number symbol.FatArrow)
  literal-form = closed_by-form (number-part total limit).form symbol.FatArrow refl

  else-form : IsForm total limit none (one (the_word word.Else) ∷ one (the symbol.FatArrow) ∷ [])
      (λ _ rest. token (tok.Reserved word.Else) ∷ token (tok.Symbol symbol.FatArrow) ∷ rest) else_arrow
  unfolding else_arrow
  else-form = closed_by-form (word-part total limit word.Else).form symbol.FatArrow refl

  else-strict : IsStrict else_arrow
  unfolding else_arrow
  else-strict = closed_by-strict (word-part total limit word.Else).form symbol.FatArrow (word-part total limit word.Else).strict

  arm-part : IsPart total limit none (open_at.arm (suc l)) (at_arm (suc l)) (arm_tree inner)
  unfolding begins arm_tree
  arm-part = record {
    form = alias-form begun (iso-form arm_of (λ a. (a.literal, a.under)) (λ a. refl) (λ p rest. arm-is _ (suc l) rest)
        (before-any literal-form tree-in.form));
    strict = into-strict _ _ (first-strict literal-form tree-in.form
        (closed_by-strict (number-part total limit).form symbol.FatArrow (number-part total limit).strict));
  } where
    begun : (t : Token) → begins (open_at.arm (suc l)) t ≡ ahead_of (one (the symbol.FatArrow) ∷ one (open_at.tree (suc l)) ∷ []) (begins a_number t)
    begun (tok.Num x) = refl
    begun _ = refl

  else-part : IsPart total limit none (open_at.other (suc l)) (else_behind (suc l)) (else_tree inner)
  unfolding begins else_tree
  else-part = record {
    form = alias-form (λ t. by_word word.Else _ t) (iso-form else_of (λ t. (tt, t)) (λ t. refl) (λ p rest. refl)
        (before-any else-form tree-in.form));
    strict = into-strict _ _ (first-strict else-form tree-in.form else-strict);
  }

  arms-form : IsForm total limit is_number (many (open_at.arm (suc l)) ∷ []) (λ xs rest. each (map (at_arm (suc l)) xs) rest) (each_of is_number (arm_tree inner))
  unfolding begins
  arms-form = each-form arm-part is_number tells (λ t. refl) where
    tells : (t : Token) → is_some (begins (open_at.arm (suc l)) t) ≡ is_number t
    tells (tok.Num x) = refl
    tells _ = refl

  other-form : IsForm total limit is_else (maybe (open_at.other (suc l)) ∷ []) (λ o rest. perhaps (else_behind (suc l)) o rest) (optional is_else (else_tree inner))
  unfolding begins
  other-form = optional-form else-part is_else (λ t. is-so (is_word word.Else t) _) (λ t h. refl)

  -- what stands behind `split`
  abbrev split_parts_written : Loc × (List ArmTree × Option SplitTree) → Writing
  split_parts_written (loc, (arms, other)) rest = loc_written loc (token (tok.Symbol symbol.OpenBrace)
      ∷ each (map (at_arm (suc l)) arms) (perhaps (else_behind (suc l)) other (token (tok.Symbol symbol.CloseBrace) ∷ rest)))

  split-form : IsForm total limit none (one a_number ∷ one a_range ∷ many open_at.loc_step ∷ one (the symbol.OpenBrace)
      ∷ many (open_at.arm (suc l)) ∷ maybe (open_at.other (suc l)) ∷ one (the symbol.CloseBrace) ∷ [])
      split_parts_written
      (pair (closed_by location symbol.OpenBrace) (branches inner))
  unfolding branches other_arm
  split-form =
      before-any (closed_by-form (location-form total limit) symbol.OpenBrace refl)
      (pair-form arms-form (closed_by-form other-form symbol.CloseBrace refl) (λ b rest c. clear b rest)) where
        clear : (o : Option SplitTree) (rest : List Written) → Clear is_number (tokens_in (perhaps (else_behind (suc l)) o (token (tok.Symbol symbol.CloseBrace) ∷ rest)))
        clear None rest = refl
        clear (Some t) rest = refl

  abbrev os : List Open
  os = one (the symbol.Colon) ∷ one (the symbol.OpenBrace) ∷ one (open_at.lay_item (suc l)) ∷ next (open_at.lay_item (suc l)) symbol.Comma symbol.CloseBrace ∷ []

  abbrev leaf_reader : Reader (PatTree × ((Unit {0}) × ((Unit {0}) × List LayItem)))
  leaf_reader = pair (provenance n total) (pair (expect symbol.Colon) (pair (expect symbol.OpenBrace) (some_closed (lay_item_tree n) symbol.Comma symbol.CloseBrace)))

  provenance-in : IsPart total limit opens_paren (open_at.prov (suc l)) (λ p. prov_written p (suc l)) (provenance n total)
  provenance-in = provenance-part total limit n (suc l) (omega (arith, fits))

  leaf-behind : IsForm total limit none os (λ p rest. items_written (suc l) p.1.1 rest)
      (pair (expect symbol.Colon) (pair (expect symbol.OpenBrace) (some_closed (lay_item_tree n) symbol.Comma symbol.CloseBrace)))
  leaf-behind = before-any (symbol-part total limit symbol.Colon).form (before-any (symbol-part total limit symbol.OpenBrace).form
      (some_closed-form (item-part total limit n (suc l) (omega (arith, fits))) symbol.Comma symbol.CloseBrace refl refl refl))

  -- a leaf by its parts
  abbrev leaf_parts_written : PatTree × (Unit {0} × (Unit {0} × List LayItem)) → Writing
  leaf_parts_written (provenance, (_, (_, items))) rest = prov_written provenance (suc l) (items_written (suc l) items rest)

  leaf-form : IsForm total limit none (one (open_at.prov (suc l)) ∷ os) leaf_parts_written leaf_reader
  leaf-form = pair-form provenance-in.form leaf-behind (λ b rest c. refl)

  abbrev this : Reader SplitTree
  this = tree_by inner (λ us. leaf n total (total - length us) us)

  tree-on : (t : Token) → AtToken total limit (open_at.tree l) (at_tree l) this t
  unfolding begins tree_by split_rest leaf
  tree-on (tok.Reserved word.Split) = node-at split-form l refl small (λ at. split_of) (λ ts. refl) (λ at. node l ∷ [])
      (λ at. tt) (λ at. tt) (λ at. rw small refl)
      (λ at (loc, (arms, other)) rest. split-written loc arms other l rest)
  tree-on (tok.Upper x) = whole-at leaf-form refl (λ at. leaf_of at) (λ ts. refl) (first-strict provenance-in.form leaf-behind provenance-in.strict) (λ at. node l ∷ number at ∷ [])
      (λ at. tt) (λ at. (refl, tt)) (λ at. rw small refl)
      (λ at (provenance, (_, (_, items))) rest. leaf-written at provenance items l rest)
  tree-on _ = none-at refl (λ ts. refl)

  leaf-again : (rest : List Written) → (at : ℕ) (p : PatTree) (items : List LayItem) → IsRight total (at_tree l (S.Leaf at p items) rest)
      → Again total limit this (S.Leaf at p items) (at_tree l (S.Leaf at p items) rest) rest
  unfolding tree_by leaf
  leaf-again rest at p items i =
      let vs : List Written = items_written (suc l) items rest in
      let j : IsRight total (node l ∷ number at ∷ prov_written p (suc l) vs) = subst (λ ws. IsRight total ws) (leaf-written at p items l rest) i in
      constructor-of (λ q. IsRight total (at_tree l (S.Leaf at q items) rest) → Again total limit this (S.Leaf at q items) (at_tree l (S.Leaf at q items) rest) rest) total (suc l) vs
      (λ m x ps i'. whole-again leaf-form (tok.Upper x.text) (λ a. leaf_of a) (λ ts. refl) (node l ∷ number at ∷ []) tt (rw small refl) _ (P.Con m x ps, (tt, (tt, items)))
      (tokens_in (fields_written (map (λ q. below_written q (suc (suc l))) ps) vs)) rest _ (leaf-written at (P.Con m x ps) items l rest)
      (ap tokens_in (prov-con-written m x ps (suc l) vs)) (λ a h. rw h.0 refl) i' (all-clear (tokens_in rest)))
      p (j.0, j.1.1) i

  tree-again : (rest : List Written) → (t : SplitTree) → IsRight total (at_tree l t rest) → Again total limit this t (at_tree l t rest) rest
  unfolding tree_by split_rest
  tree-again rest = tree_by_form (λ t. IsRight total (at_tree l t rest) → Again total limit this t (at_tree l t rest) rest)
      (λ loc arms other i. node-again split-form (tok.Reserved word.Split) (λ at. split_of) (λ ts. refl) (node l ∷ []) tt (rw small refl) _ (loc, (arms, other)) rest _
      (split-written loc arms other l rest) (λ at h. refl) i (all-clear (tokens_in rest)))
      (λ at p items i. leaf-again rest at p items i)

  tree-above : IsPart total limit none (open_at.tree l) (at_tree l) this
  unfolding tree_by
  tree-above = part-form refl tree-on (λ t rest i c. tree-again rest t i)

pub tree-part : (total limit n l : ℕ) → l + n ≡ suc limit → IsPart total limit none (open_at.tree l) (at_tree l) (layout_tree n total)
unfolding layout_tree
tree-part total limit zero l e = tree-zero total limit l e
tree-part total limit (suc n) l e = tree-above total limit l n e (tree-part total limit n (suc l) (omega (arith, e)))
