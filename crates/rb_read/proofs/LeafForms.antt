-- Parts and items of a leaf.
use Rattle.std.proofs.Common.{◌≡◌, ℕ, zero, suc, ◌+◌, List, [], ◌∷◌, ◌++◌, map, Bool, true, false, ◌||◌, nat_lt, Option, Some, None, is_some, Ok, Err, refl, ◌∙◌, ap, subst, arith}
use Rattle.rb_core.specs.declared.layout_decl.LayItem.{LayItem, out-LayItem, roll-out-LayItem}
use Rattle.rb_core.specs.declared.layout_decl.LayItem as I
use Rattle.rb_core.specs.declared.layout_decl.LayItem.TheViews as V
use Rattle.rb_core.specs.declared.layout_decl.LayItem.TheOpen as item
use Rattle.rb_core.specs.declared.layout_decl.LayItem.TheOpen.{LayItem-F, PartKind-F}
use Rattle.rb_core.specs.declared.layout_decl.PartKind.{PartKind}
use Rattle.rb_core.specs.declared.layout_decl.PartKind as K
use Rattle.rb_core.specs.declared.layout_decl.PartDecl.{PartDecl}
use Rattle.rb_syntax.specs.declared.token.ReservedWord.TheVariants as word
use Rattle.rb_syntax.specs.declared.token.Symbol.TheVariants as symbol
use Rattle.rb_syntax.specs.declared.token.Token.{Token}
use Rattle.rb_syntax.specs.declared.token.Token.TheVariants as tok
use Rattle.rb_syntax.specs.Written.{Written, Writing, token, node, flaw, tokens_in, each, any_with}
use Rattle.rb_syntax.specs.Spelling.{num, word_token, range_written, field_written, kind_written, part_written, lay_item_written}
use Rattle.rb_syntax.proofs.LayoutSpelling.{item-Word, item-Inline, part-is, kind-Const, kind-Whole, kind-Slice, kind-Word, kind-Pointer}
use Rattle.rb_read.specs.inner.Starting.{is_symbol}
use Rattle.rb_read.specs.inner.Combining.{Reader, ReadOutcome, ◌>>=◌, pair, into, expect, optional, any_closed}
use Rattle.rb_read.proofs.Open.{one, maybe, many, first, the, a_number, a_field, into_field, begins, if_so, ahead_of}
use Rattle.rb_read.proofs.Open as open_at
use Rattle.rb_read.specs.inner.Tokens.{number, field}
use Rattle.rb_read.specs.inner.Reading.{PathEnd, sliced, numbered, ends_path, field_in, more_fields, path, path_end_from, field_part, part_kind_from, part_kind, part, item_from, item_one, no_pointer, pointer, lay_item_tree, field_part_of, pointer_of, word_item_of}
use Rattle.rb_read.specs.inner.Reading as reading
use Rattle.rb_read.proofs.Forms.{IsRight, Again, Clear, IsForm}
use Rattle.rb_read.proofs.FormLaws.{nat_lt-zero, all-clear, pair-form, first-strict, iso-form, bars-form, into-strict, alias-form}
use Rattle.rb_read.proofs.NodeForms.{AtToken, IsPart, part-form, none-at, deep-at, node-at, node-again, deep-again}
use Rattle.rb_read.proofs.TokenForms.{field_number, symbol-part, number-part, field-part}
use Rattle.rb_read.proofs.TypeForms.{before-any}
use Rattle.rb_read.proofs.ListForms.{perhaps, any_closed-form, optional-form}
use Rattle.rb_read.proofs.PatternForms.{at_level-map, within, not-within}
use Rattle.rb_read.proofs.LocationForms.{opens_dot, range_rest-form, range-part, field_in-part, more_fields-form}

abbrev none : Token → Bool
none t = false

-- What stands behind a path in a part.

abbrev end_written : PathEnd → Writing
end_written (sliced a b) rest = range_written a b rest
end_written (numbered j) rest = word_token word.Word ∷ num j ∷ rest

path_end-part : (total limit : ℕ) → IsPart total limit none open_at.path_end end_written reading.path_end
unfolding begins reading.path_end path_end_from
path_end-part total limit = part-form refl on again where
  on : (t : Token) → AtToken total limit open_at.path_end end_written reading.path_end t
  on (tok.Symbol symbol.OpenBracket) = node-at (range_rest-form total limit) 0 refl (nat_lt-zero limit) (λ at r. sliced r.0 r.1) (λ ts. refl) (λ at. [])
      (λ at. tt) (λ at. tt) (λ at. refl) (λ at r rest. refl)
  on (tok.Reserved word.Word) = node-at (number-part total limit).form 0 refl (nat_lt-zero limit) (λ at j. numbered j) (λ ts. refl) (λ at. [])
      (λ at. tt) (λ at. tt) (λ at. refl) (λ at j rest. refl)
  on _ = none-at refl (λ ts. refl)

  again : (x : PathEnd) (rest : List Written) → IsRight total (end_written x rest) → Clear none (tokens_in rest) → Again total limit reading.path_end x (end_written x rest) rest
  again (sliced a b) rest i c = node-again (range_rest-form total limit) (tok.Symbol symbol.OpenBracket) (λ at r. sliced r.0 r.1) (λ ts. refl) [] tt refl _ (a, b) rest _ refl (λ at h. refl) i c
  again (numbered j) rest i c = node-again (number-part total limit).form (tok.Reserved word.Word) (λ at j. numbered j) (λ ts. refl) [] tt refl _ j rest _ refl (λ at h. refl) i c

-- what would go on with a path in a part
abbrev pub path_bars : Token → Bool
path_bars t = ends_path t || opens_dot t

or-left : (b c : Bool) → (b || c) ≡ false → b ≡ false
or-left true c e = cc
or-left false c e = refl

or-right : (b c : Bool) → (b || c) ≡ false → c ≡ false
or-right true c e = cc
or-right false c e = e

path_end-tells : (t : Token) → is_some (begins open_at.path_end t) ≡ ends_path t
unfolding begins
path_end-tells (tok.Symbol symbol.OpenBracket) = refl
path_end-tells (tok.Reserved word.Word) = refl
path_end-tells _ = refl

maybe_end-form : (total limit : ℕ) → IsForm total limit path_bars (maybe open_at.path_end ∷ []) (λ o rest. perhaps end_written o rest) (optional ends_path reading.path_end)
maybe_end-form total limit = bars-form (λ t h. or-left (ends_path t) (opens_dot t) h)
    (optional-form (path_end-part total limit) ends_path path_end-tells (λ t h. refl))

-- behind the dot of a part's path
dotted-form : (total limit : ℕ) → IsForm total limit path_bars (one a_field ∷ many into_field ∷ maybe open_at.path_end ∷ [])
    (λ p rest. field_number p.0 (each (map field_written p.1.0) (perhaps end_written p.1.1 rest))) (pair field (pair more_fields (optional ends_path reading.path_end)))
dotted-form total limit = before-any (field-part total limit).form (pair-form (more_fields-form total limit) (maybe_end-form total limit) clear) where
  front : (ts : List Token) → Clear path_bars ts → Clear opens_dot ts
  front [] c = tt
  front (t ∷ ts) c = or-right (ends_path t) (opens_dot t) c

  clear : (o : Option PathEnd) (rest : List Written) → Clear path_bars (tokens_in rest) → Clear opens_dot (tokens_in (perhaps end_written o rest))
  clear None rest c = front (tokens_in rest) c
  clear (Some (sliced a b)) rest c = refl
  clear (Some (numbered j)) rest c = refl

field_part-written : (n : ℕ) (ns : List ℕ) (o : Option PathEnd) (l : ℕ) (rest : List Written) → kind_written (field_part (n ∷ ns) o) l rest
    ≡ token (tok.Symbol symbol.Dot) ∷ field_number n (each (map field_written ns) (perhaps end_written o rest))
field_part-written n ns None l rest = kind-Whole (n ∷ ns) l rest
field_part-written n ns (Some (sliced a b)) l rest = kind-Slice (n ∷ ns) a b l rest
field_part-written n ns (Some (numbered j)) l rest = kind-Word (n ∷ ns) j l rest

into-into : {A B X : Type 0} (f : B → X) (g : A → B) (r : ReadOutcome A) → ((r >>= λ x. Ok (g x.0, x.1)) >>= λ y. Ok (f y.0, y.1)) ≡ (r >>= λ x. Ok (f (g x.0), x.1))
into-into f g (Ok x) = refl
into-into f g (Err e) = refl

-- no path is empty
flawed-path : (total : ℕ) (o : Option PathEnd) (l : ℕ) (rest : List Written) → IsRight total (kind_written (field_part [] o) l rest) → ⊥
flawed-path total None l rest i = let j : IsRight total (flaw ∷ rest) = subst (λ ws. IsRight total ws) (kind-Whole [] l rest) i in j.0
flawed-path total (Some (sliced a b)) l rest i = let j : IsRight total (flaw ∷ range_written a b rest) = subst (λ ws. IsRight total ws) (kind-Slice [] a b l rest) i in j.0
flawed-path total (Some (numbered j)) l rest i = let k : IsRight total (flaw ∷ word_token word.Word ∷ num j ∷ rest) = subst (λ ws. IsRight total ws) (kind-Word [] j l rest) i in k.0

-- a part's kind, form by form
kind_by_form : (Q : PartKind → Type 0) → ((c : ℕ) → Q (K.Const c)) → ((p : List ℕ) → Q (K.Whole p)) → ((p : List ℕ) (a b : ℕ) → Q (K.Slice p a b))
    → ((p : List ℕ) (j : ℕ) → Q (K.Word p j)) → ((align : ℕ) (items : List LayItem) → Q (K.Pointer align items)) → (k : PartKind) → Q k
unfolding V.roll-PartKind denote.Hole.Carrier.roll
kind_by_form Q const whole slice in_word pointed k = subst Q (V.roll-out-PartKind k) (layer (V.out-PartKind k)) where
  layer : (x : PartKind-F LayItem PartKind PartDecl) → Q (V.roll-PartKind x)
  layer (item.Const c) = const c
  layer (item.Whole p) = whole p
  layer (item.Slice p a b) = slice p a b
  layer (item.PartKind::Word p j) = in_word p j
  layer (item.Pointer align items) = pointed align items

item_by_form : (Q : LayItem → Type 0) → ((bits : ℕ) (parts : List PartDecl) → Q (I.Word bits parts)) → ((p : List ℕ) → Q (I.Inline p)) → (i : LayItem) → Q i
unfolding I.roll-LayItem denote.Hole.Carrier.roll
item_by_form Q word inline i = subst Q (roll-out-LayItem i) (layer (out-LayItem i)) where
  layer : (x : LayItem-F LayItem PartKind PartDecl) → Q (I.roll-LayItem x)
  layer (item.LayItem::Word bits parts) = word bits parts
  layer (item.Inline p) = inline p

-- Kinds, parts and items, over what stands behind `->`.

pointer-written : (align : ℕ) (items : List LayItem) (l : ℕ) (rest : List Written) → kind_written (K.Pointer align items) l rest
    ≡ node l ∷ token (tok.Symbol symbol.Arrow) ∷ num align ∷ token (tok.Symbol symbol.OpenBrace)
    ∷ any_with (tok.Symbol symbol.Comma) (map (λ i rest'. lay_item_written i (suc l) rest') items) (token (tok.Symbol symbol.CloseBrace) ∷ rest)
pointer-written align items l rest = kind-Pointer align items l rest
    ∙ ap (λ ws. node l ∷ token (tok.Symbol symbol.Arrow) ∷ num align ∷ token (tok.Symbol symbol.OpenBrace)
    ∷ any_with (tok.Symbol symbol.Comma) ws (token (tok.Symbol symbol.CloseBrace) ∷ rest)) (at_level-map lay_item_written (suc l) items)

word-written : (bits : ℕ) (parts : List PartDecl) (l : ℕ) (rest : List Written) → lay_item_written (I.Word bits parts) l rest
    ≡ token (tok.Reserved word.Word) ∷ num bits ∷ token (tok.Symbol symbol.OpenBrace)
    ∷ any_with (tok.Symbol symbol.Comma) (map (λ p rest'. part_written p l rest') parts) (token (tok.Symbol symbol.CloseBrace) ∷ rest)
word-written bits parts l rest = item-Word bits parts l rest
    ∙ ap (λ ws. token (tok.Reserved word.Word) ∷ num bits ∷ token (tok.Symbol symbol.OpenBrace)
    ∷ any_with (tok.Symbol symbol.Comma) ws (token (tok.Symbol symbol.CloseBrace) ∷ rest)) (at_level-map part_written l parts)

abbrev at_kind : ℕ → PartKind → Writing
at_kind l k rest = kind_written k l rest

abbrev pub at_item : ℕ → LayItem → Writing
at_item l i rest = lay_item_written i l rest

-- what an arrow begins at a level
record IsPointed (total limit l : ℕ) (pointed : Reader PartKind) : Type 0 where
  on : AtToken total limit (open_at.part_kind l) (at_kind l) (part_kind pointed) (tok.Symbol symbol.Arrow)
  again : (align : ℕ) (items : List LayItem) (rest : List Written) → IsRight total (at_kind l (K.Pointer align items) rest)
      → Again total limit (part_kind pointed) (K.Pointer align items) (at_kind l (K.Pointer align items) rest) rest

module _ (total limit l : ℕ) (pointed : Reader PartKind) (arrow : IsPointed total limit l pointed) where
  kind-on : (t : Token) → AtToken total limit (open_at.part_kind l) (at_kind l) (part_kind pointed) t
  unfolding begins part_kind part_kind_from
  kind-on (tok.Symbol symbol.Equals) = node-at (number-part total limit).form 0 refl (nat_lt-zero limit) (λ at n. K.Const n) (λ ts. refl) (λ at. [])
      (λ at. tt) (λ at. tt) (λ at. refl) (λ at n rest. kind-Const n l rest)
  kind-on (tok.Symbol symbol.Dot) = node-at (dotted-form total limit) 0 refl (nat_lt-zero limit) (λ at. field_part_of) (λ ts. refl) (λ at. [])
      (λ at. tt) (λ at. tt) (λ at. refl) (λ at p rest. field_part-written p.0 p.1.0 p.1.1 l rest)
  kind-on (tok.Symbol symbol.Arrow) = arrow.on
  kind-on _ = none-at refl (λ ts. refl)

  -- a path of a field or more is held as it is written
  field_part-again : (ns : List ℕ) (o : Option PathEnd) (rest : List Written) → IsRight total (at_kind l (field_part ns o) rest) → Clear path_bars (tokens_in rest)
      → Again total limit (part_kind pointed) (field_part ns o) (at_kind l (field_part ns o) rest) rest
  unfolding part_kind part_kind_from
  field_part-again [] o rest i c = absurd (flawed-path total o l rest i)
  field_part-again (n ∷ ns) o rest i c = node-again (dotted-form total limit) (tok.Symbol symbol.Dot) (λ at. field_part_of) (λ ts. refl) [] tt refl _ (n, (ns, o)) rest _
      (field_part-written n ns o l rest) (λ at h. refl) i c

  kind-again : (rest : List Written) → Clear path_bars (tokens_in rest) → (k : PartKind) → IsRight total (at_kind l k rest)
      → Again total limit (part_kind pointed) k (at_kind l k rest) rest
  unfolding part_kind part_kind_from
  kind-again rest c = kind_by_form (λ k. IsRight total (at_kind l k rest) → Again total limit (part_kind pointed) k (at_kind l k rest) rest)
      (λ n i. node-again (number-part total limit).form (tok.Symbol symbol.Equals) (λ at n. K.Const n) (λ ts. refl) [] tt refl _ n rest _
      (kind-Const n l rest) (λ at h. refl) i (all-clear (tokens_in rest)))
      (λ p i. field_part-again p None rest i c)
      (λ p a b i. field_part-again p (Some (sliced a b)) rest i c)
      (λ p j i. field_part-again p (Some (numbered j)) rest i c)
      (λ align items i. arrow.again align items rest i)

  kind-part : IsPart total limit path_bars (open_at.part_kind l) (at_kind l) (part_kind pointed)
  unfolding part_kind
  kind-part = part-form refl kind-on (λ k rest i c. kind-again rest c k i)

  one_part-part : IsPart total limit path_bars (open_at.part l) (λ p rest. part_written p l rest) (part pointed)
  unfolding begins part
  one_part-part = record {
    form = alias-form (λ t. begun t) (iso-form (λ p. record { o = p.0.0; l = p.0.1; kind = p.1 }) (λ p. ((p.o, p.l), p.kind)) (λ p. refl) (λ p rest. part-is _ l rest)
        (before-any (range-part total limit).form kind-part.form));
    strict = into-strict _ _ (first-strict (range-part total limit).form kind-part.form (range-part total limit).strict);
  } where
    begun : (t : Token) → if_so (is_symbol symbol.OpenBracket t) (open_at.range_rest ++ one (open_at.part_kind l) ∷ [])
        ≡ ahead_of (one (open_at.part_kind l) ∷ []) (if_so (is_symbol symbol.OpenBracket t) open_at.range_rest)
    begun t = by_test (is_symbol symbol.OpenBracket t) where
      by_test : (b : Bool) → if_so b (open_at.range_rest ++ one (open_at.part_kind l) ∷ []) ≡ ahead_of (one (open_at.part_kind l) ∷ []) (if_so b open_at.range_rest)
      by_test true = refl
      by_test false = refl

  -- behind the word `word`
  parts-form : IsForm total limit none (one a_number ∷ one (the symbol.OpenBrace) ∷ first (open_at.part l) symbol.CloseBrace ∷ [])
      (λ p rest. num p.0 ∷ token (tok.Symbol symbol.OpenBrace) ∷ any_with (tok.Symbol symbol.Comma) (map (λ q rest'. part_written q l rest') p.1.1) (token (tok.Symbol symbol.CloseBrace) ∷ rest))
      (pair number (pair (expect symbol.OpenBrace) (any_closed (part pointed) symbol.CloseBrace)))
  unfolding begins
  parts-form = before-any (number-part total limit).form (before-any (symbol-part total limit symbol.OpenBrace).form
      (any_closed-form one_part-part symbol.CloseBrace refl refl refl refl))

  fields-form : IsForm total limit opens_dot (one into_field ∷ many into_field ∷ []) (λ p rest. field_written p.0 (each (map field_written p.1) rest)) (pair field_in more_fields)
  fields-form = before-any (field_in-part total limit).form (more_fields-form total limit)

  inline-reads : (ts : List Token) → item_one pointed (tok.Reserved word.Inline ∷ ts) ≡ into (λ p. I.Inline (p.0 ∷ p.1)) (pair field_in more_fields) ts
  unfolding item_one item_from path into
  inline-reads ts = into-into (λ q. I.Inline q) (λ p. p.0 ∷ p.1) (pair field_in more_fields ts)

  item-on : (t : Token) → AtToken total limit (open_at.lay_item l) (at_item l) (item_one pointed) t
  unfolding begins item_one item_from
  item-on (tok.Reserved word.Word) = node-at parts-form 0 refl (nat_lt-zero limit) (λ at. word_item_of) (λ ts. refl) (λ at. [])
      (λ at. tt) (λ at. tt) (λ at. refl) (λ at p rest. word-written p.0 p.1.1 l rest)
  item-on (tok.Reserved word.Inline) = node-at fields-form 0 refl (nat_lt-zero limit) (λ at p. I.Inline (p.0 ∷ p.1)) (λ ts. inline-reads ts) (λ at. [])
      (λ at. tt) (λ at. tt) (λ at. refl) (λ at p rest. item-Inline (p.0 ∷ p.1) l rest)
  item-on _ = none-at refl (λ ts. refl)

  inline-again : (rest : List Written) → Clear opens_dot (tokens_in rest) → (ns : List ℕ) → IsRight total (at_item l (I.Inline ns) rest)
      → Again total limit (item_one pointed) (I.Inline ns) (at_item l (I.Inline ns) rest) rest
  inline-again rest c [] i = let j : IsRight total (word_token word.Inline ∷ flaw ∷ rest) = subst (λ ws. IsRight total ws) (item-Inline [] l rest) i in absurd j.0
  inline-again rest c (n ∷ ns) i = node-again fields-form (tok.Reserved word.Inline) (λ at p. I.Inline (p.0 ∷ p.1)) (λ ts. inline-reads ts) [] tt refl _ (n, ns) rest _
      (item-Inline (n ∷ ns) l rest) (λ at h. refl) i c

  item-again : (rest : List Written) → Clear opens_dot (tokens_in rest) → (x : LayItem) → IsRight total (at_item l x rest)
      → Again total limit (item_one pointed) x (at_item l x rest) rest
  unfolding item_one item_from
  item-again rest c = item_by_form (λ x. IsRight total (at_item l x rest) → Again total limit (item_one pointed) x (at_item l x rest) rest)
      (λ bits parts i. node-again parts-form (tok.Reserved word.Word) (λ at. word_item_of) (λ ts. refl) [] tt refl _ (bits, (tt, parts)) rest _
      (word-written bits parts l rest) (λ at h. refl) i (all-clear (tokens_in rest)))
      (λ ns i. inline-again rest c ns i)

  item-above : IsPart total limit opens_dot (open_at.lay_item l) (at_item l) (item_one pointed)
  unfolding item_one
  item-above = part-form refl item-on (λ x rest i c. item-again rest c x i)

-- No level is left for a pointer, or it stands above items.

pointed-zero : (total limit l : ℕ) → l + 0 ≡ suc limit → IsPointed total limit l no_pointer
unfolding begins part_kind part_kind_from no_pointer
pointed-zero total limit l e = record {
  on = deep-at l _ refl (not-within limit l e) (λ ts. refl);
  again = λ align items rest i. deep-again (tok.Symbol symbol.Arrow) (λ ts. refl) (node l ∷ []) tt (rw (not-within limit l e) refl) _ _ rest _ (pointer-written align items l rest);
}

module _ (total limit l : ℕ) (small : nat_lt limit l ≡ false) {inner : Reader LayItem} (items-in : IsPart total limit opens_dot (open_at.lay_item (suc l)) (at_item (suc l)) inner) where
  block-form : IsForm total limit none (one a_number ∷ one (the symbol.OpenBrace) ∷ first (open_at.lay_item (suc l)) symbol.CloseBrace ∷ [])
      (λ p rest. num p.0 ∷ token (tok.Symbol symbol.OpenBrace) ∷ any_with (tok.Symbol symbol.Comma) (map (at_item (suc l)) p.1.1) (token (tok.Symbol symbol.CloseBrace) ∷ rest))
      (pair number (pair (expect symbol.OpenBrace) (any_closed inner symbol.CloseBrace)))
  unfolding begins
  block-form = before-any (number-part total limit).form (before-any (symbol-part total limit symbol.OpenBrace).form
      (any_closed-form items-in symbol.CloseBrace refl refl refl refl))

  pointed-above : IsPointed total limit l (pointer inner)
  unfolding begins part_kind part_kind_from pointer
  pointed-above = record {
    on = node-at block-form l refl small (λ at. pointer_of) (λ ts. refl) (λ at. node l ∷ []) (λ at. tt) (λ at. tt) (λ at. rw small refl)
        (λ at p rest. pointer-written p.0 p.1.1 l rest);
    again = λ align items rest i. node-again block-form (tok.Symbol symbol.Arrow) (λ at. pointer_of) (λ ts. refl) (node l ∷ []) tt (rw small refl) _ (align, (tt, items)) rest _
        (pointer-written align items l rest) (λ at h. refl) i (all-clear (tokens_in rest));
  }

pub item-part : (total limit n l : ℕ) → l + n ≡ suc limit → IsPart total limit opens_dot (open_at.lay_item l) (at_item l) (lay_item_tree n)
unfolding lay_item_tree
item-part total limit zero l e = item-above total limit l no_pointer (pointed-zero total limit l e)
item-part total limit (suc n) l e = item-above total limit l _ (pointed-above total limit l (within limit l n e) (item-part total limit n (suc l) (omega (arith, e))))
