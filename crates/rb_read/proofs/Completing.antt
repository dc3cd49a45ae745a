-- What is open behind a file's first tokens can always be completed.
use Rattle.std.proofs.Common.{◌≡◌, ℕ, suc, List, [], ◌∷◌, ◌++◌, Bool, true, false, if◌then◌else◌, Some, None, refl, ◌∙◌, subst, arith, codes, append_assoc}
use Rattle.std.proofs.lemmas.Grind.{common_steps}
use Rattle.rb_syntax.specs.declared.token.ReservedWord.{ReservedWord}
use Rattle.rb_syntax.specs.declared.token.ReservedWord.TheVariants as word
use Rattle.rb_syntax.specs.declared.token.Symbol.{Symbol}
use Rattle.rb_syntax.specs.declared.token.Symbol.TheVariants as symbol
use Rattle.rb_syntax.specs.declared.token.Token.{Token}
use Rattle.rb_syntax.specs.declared.token.Token.TheVariants as token
use Rattle.rb_read.specs.declared.starting.Form.{Form}
use Rattle.rb_read.specs.declared.starting.Form.TheVariants as form
use Rattle.rb_read.specs.inner.Starting.{is_symbol, is_word, form_of}
use Rattle.rb_read.proofs.Open.{Kind, the, the_word, a_lower, an_upper, a_number, a_width, a_field, a_type, a_con, a_param, expr, arguments, fields, pat, clause, into_field, a_range, path_end, part_kind, part, lay_item, loc_step, prov, below, tree, arm, other, layout_rest, derived, item, Open, one, maybe, many, first, next, Step, ahead_of, if_so, as_expr, as_pattern, begins, or_else, step, is_done, start}
use Rattle.rb_read.proofs.Steps.{goes_to, steps, steps-append}

abbrev sym_of : Symbol → Token
sym_of s = token.Symbol s

abbrev least_range : List Token
least_range = sym_of symbol.OpenBracket ∷ token.Num 0 ∷ sym_of symbol.Colon ∷ token.Num 0 ∷ sym_of symbol.CloseBracket ∷ []

abbrev least_items : List Token
least_items = token.Reserved word.Word ∷ token.Num 0 ∷ sym_of symbol.OpenBrace ∷ sym_of symbol.CloseBrace ∷ []

abbrev least_prov : List Token
least_prov = token.Upper (codes "T") ∷ sym_of symbol.OpenParen ∷ sym_of symbol.Underscore ∷ sym_of symbol.CloseParen ∷ []

abbrev least_tree : List Token
least_tree = least_prov ++ sym_of symbol.Colon ∷ sym_of symbol.OpenBrace ∷ least_items ++ sym_of symbol.CloseBrace ∷ []

-- tokens that are a part of the grammar, with nothing optional open behind them
abbrev least : Kind → List Token
least (the s) = sym_of s ∷ []
least (the_word w) = token.Reserved w ∷ []
least a_lower = token.Lower (codes "x") ∷ []
least an_upper = token.Upper (codes "T") ∷ []
least a_number = token.Num 0 ∷ []
least a_width = token.Uint 1 ∷ []
least a_field = token.Num 0 ∷ []
least a_type = token.Uint 1 ∷ []
least a_con = token.Upper (codes "T") ∷ sym_of symbol.OpenParen ∷ token.Uint 1 ∷ sym_of symbol.CloseParen ∷ []
least a_param = token.Lower (codes "x") ∷ sym_of symbol.Colon ∷ token.Uint 1 ∷ []
least (expr l) = token.Num 0 ∷ []
least (arguments l) = sym_of symbol.OpenParen ∷ sym_of symbol.CloseParen ∷ []
least (fields a) = sym_of symbol.OpenParen ∷ least a ++ sym_of symbol.CloseParen ∷ []
least (pat l) = sym_of symbol.Underscore ∷ []
least (clause l) = sym_of symbol.Underscore ∷ sym_of symbol.FatArrow ∷ token.Num 0 ∷ []
least into_field = sym_of symbol.Dot ∷ token.Num 0 ∷ []
least a_range = least_range
least path_end = least_range
least (part_kind l) = sym_of symbol.Equals ∷ token.Num 0 ∷ []
least (part l) = least_range ++ sym_of symbol.Equals ∷ token.Num 0 ∷ []
least (lay_item l) = least_items
least loc_step = sym_of symbol.Arrow ∷ token.Num 0 ∷ sym_of symbol.At ∷ token.Num 0 ∷ sym_of symbol.Colon ∷ token.Num 0 ∷ least_range
least (prov l) = least_prov
least (below l) = sym_of symbol.Underscore ∷ []
least (tree l) = least_tree
least (arm l) = token.Num 0 ∷ sym_of symbol.FatArrow ∷ least_tree
least (other l) = token.Reserved word.Else ∷ sym_of symbol.FatArrow ∷ least_tree
least layout_rest = sym_of symbol.Equals ∷ token.Reserved word.Boxed ∷ sym_of symbol.Semicolon ∷ []
least derived = token.Reserved word.Boxed ∷ []
least item = token.Reserved word.Layout ∷ token.Upper (codes "T") ∷ sym_of symbol.Equals ∷ token.Reserved word.Boxed ∷ sym_of symbol.Semicolon ∷ []

is_symbol-same : (s : Symbol) → is_symbol s (token.Symbol s) ≡ true
is_symbol-same s = grind (arith, common_steps)

is_word-same : (w : ReservedWord) → is_word w (token.Reserved w) ≡ true
is_word-same w = grind (arith, common_steps)

least-steps : (a : Kind) (k : List Open) → steps (one a ∷ k) (least a) ≡ Some k
unfolding steps goes_to step begins as_pattern form_of
least-steps (the s) k = rw (is_symbol-same s) refl
least-steps (the_word w) k = rw (is_word-same w) refl
least-steps a_lower k = refl
least-steps an_upper k = refl
least-steps a_number k = refl
least-steps a_width k = refl
least-steps a_field k = refl
least-steps a_type k = refl
least-steps a_con k = refl
least-steps a_param k = refl
least-steps (expr l) k = refl
least-steps (arguments l) k = refl
least-steps (fields a) k =
    let j : List Open = next a symbol.Comma symbol.CloseParen ∷ k in
    steps-append (least a) (sym_of symbol.CloseParen ∷ []) (one a ∷ j) j k (least-steps a j) refl
least-steps (pat l) k = refl
least-steps (clause l) k = refl
least-steps into_field k = refl
least-steps a_range k = refl
least-steps path_end k = refl
least-steps (part_kind l) k = refl
least-steps (part l) k = refl
least-steps (lay_item l) k = refl
least-steps loc_step k = refl
least-steps (prov l) k = refl
least-steps (below l) k = refl
least-steps (tree l) k = refl
least-steps (arm l) k = refl
least-steps (other l) k = refl
least-steps layout_rest k = refl
least-steps derived k = refl
least-steps item k = refl

-- tokens that close all that is open
abbrev pub completion : List Open → List Token
completion [] = []
completion (one a ∷ k) = least a ++ completion k
completion (maybe a ∷ k) = completion k
completion (many a ∷ k) = completion k
completion (first a close ∷ k) = sym_of close ∷ completion k
completion (next a separator close ∷ k) = sym_of close ∷ completion k

-- What may be left out can be left out before one of these tokens: they begin nothing that may.
abbrev is_plain : Token → Bool
is_plain (token.Symbol symbol.OpenParen) = false
is_plain (token.Symbol symbol.OpenBracket) = false
is_plain (token.Symbol symbol.Dot) = false
is_plain (token.Symbol symbol.Arrow) = false
is_plain (token.Symbol s) = true
is_plain (token.Reserved word.In) = true
is_plain _ = false

abbrev IsLeftOut : Kind → Type 0
IsLeftOut a = (t : Token) → is_plain t ≡ true → begins a t ≡ None

arguments-left_out : (l : ℕ) → IsLeftOut (arguments l)
unfolding begins
arguments-left_out l (token.Symbol symbol.OpenParen) e = cc
arguments-left_out l _ e = refl

fields-left_out : (a : Kind) → IsLeftOut (fields a)
unfolding begins
fields-left_out a (token.Symbol symbol.OpenParen) e = cc
fields-left_out a _ e = refl

into_field-left_out : IsLeftOut into_field
unfolding begins
into_field-left_out (token.Symbol symbol.Dot) e = cc
into_field-left_out _ e = refl

path_end-left_out : IsLeftOut path_end
unfolding begins
path_end-left_out (token.Symbol symbol.OpenBracket) e = cc
path_end-left_out (token.Reserved word.Word) e = cc
path_end-left_out _ e = refl

loc_step-left_out : IsLeftOut loc_step
unfolding begins
loc_step-left_out (token.Symbol symbol.Arrow) e = cc
loc_step-left_out _ e = refl

arm-left_out : (l : ℕ) → IsLeftOut (arm l)
unfolding begins
arm-left_out l (token.Num n) e = cc
arm-left_out l _ e = refl

other-left_out : (l : ℕ) → IsLeftOut (other l)
unfolding begins
other-left_out l (token.Reserved word.Else) e = cc
other-left_out l _ e = refl

item-left_out : IsLeftOut item
unfolding begins
item-left_out (token.Reserved word.Type) e = cc
item-left_out (token.Reserved word.Layout) e = cc
item-left_out (token.Reserved word.Fun) e = cc
item-left_out _ e = refl

-- its tokens begin with a plain one, or there are none
abbrev BeginPlain : List Token → Type 0
BeginPlain [] = Unit {0}
BeginPlain (t ∷ ts) = is_plain t ≡ true

-- where this is open, what may be left out may stand before it
abbrev IsAfter : List Open → Type 0
IsAfter k = BeginPlain (completion k)

-- the part may end in one that may be left out
abbrev is_loose : Kind → Bool
is_loose a_con = true
is_loose (expr l) = true
is_loose (pat l) = true
is_loose (clause l) = true
is_loose (part_kind l) = true
is_loose (part l) = true
is_loose (lay_item l) = true
is_loose (prov l) = true
is_loose (below l) = true
is_loose _ = false

abbrev IsAfterPart : Bool → List Open → Type 0
IsAfterPart true k = IsAfter k
IsAfterPart false k = Unit {0}

-- what may be left out has only what may follow it behind it
abbrev Fits : List Open → Type 0
Fits [] = Unit {0}
Fits (one a ∷ k) = IsAfterPart (is_loose a) k × Fits k
Fits (maybe a ∷ k) = IsLeftOut a × IsAfter k × Fits k
Fits (many a ∷ k) = IsLeftOut a × IsAfter k × Fits k
Fits (first a close ∷ k) = (is_plain (sym_of close) ≡ true) × (is_symbol symbol.Comma (sym_of close) ≡ false) × Fits k
Fits (next a separator close ∷ k) = (is_plain (sym_of close) ≡ true) × (is_symbol separator (sym_of close) ≡ false) × Fits k

pub start-fits : Fits start
start-fits = (item-left_out, tt, tt)

-- the tokens end all that is open
pub record Ends (k : List Open) (ts : List Token) : Type 0 where
  pub last : List Open
  pub reached : steps k ts ≡ Some last
  pub done : is_done last ≡ true

ends-past : (k j : List Open) (ts : List Token) → ((t : Token) → is_plain t ≡ true → step j t ≡ step k t) → is_done j ≡ is_done k → BeginPlain ts → Ends k ts → Ends j ts
unfolding steps
ends-past k j [] same d p e = let q : k ≡ e.last = cc in record { last = j; reached = refl; done = d ∙ rw q e.done }
ends-past k j (t ∷ ts) same d p e = record { last = e.last; reached = rw (same t p) e.reached; done = e.done }

ends-behind : (k k' : List Open) (ts us : List Token) → steps k ts ≡ Some k' → Ends k' us → Ends k (ts ++ us)
ends-behind k k' ts us s e = record { last = e.last; reached = steps-append ts us k k' e.last s e.reached; done = e.done }

pub completes : (k : List Open) → Fits k → Ends k (completion k)
unfolding steps goes_to step is_done
completes [] h = record { last = []; reached = refl; done = refl }
completes (one a ∷ k) h = ends-behind (one a ∷ k) k (least a) (completion k) (least-steps a k) (completes k h.1)
completes (maybe a ∷ k) h = ends-past k (maybe a ∷ k) (completion k) (λ t p. rw (h.0 t p) refl) refl h.1 (completes k h.2)
completes (many a ∷ k) h = ends-past k (many a ∷ k) (completion k) (λ t p. rw (h.0 t p) refl) refl h.1 (completes k h.2)
completes (first a close ∷ k) h =
    let e : Ends k (completion k) = completes k h.2 in record { last = e.last; reached = rw (is_symbol-same close) e.reached; done = e.done }
completes (next a separator close ∷ k) h =
    let e : Ends k (completion k) = completes k h.2 in record { last = e.last; reached = rw (h.1, is_symbol-same close) e.reached; done = e.done }

-- Each step keeps it so.
abbrev StepFits : Step → Type 0
StepFits None = Unit {0}
StepFits (Some s) = Fits s.1

after_part : (b : Bool) (k : List Open) → IsAfter k → IsAfterPart b k
after_part true k p = p
after_part false k p = tt

if_so-fits : (b : Bool) (k js : List Open) → Fits (js ++ k) → StepFits (ahead_of k (if_so b js))
if_so-fits true k js h = h
if_so-fits false k js h = tt

some-fits : (a : Kind) (separator close : Symbol) (k : List Open) → is_plain (sym_of close) ≡ true → is_symbol separator (sym_of close) ≡ false → Fits k
    → Fits (one a ∷ next a separator close ∷ k)
some-fits a separator close k p s h = (after_part (is_loose a) _ p, (p, s, h))

abbrev IsBegun : Kind → Token → List Open → Type 0
IsBegun a t k = Fits k → IsAfterPart (is_loose a) k → StepFits (ahead_of k (begins a t))

ahead_of-fits : (k js : List Open) (r : Step) → StepFits (ahead_of (js ++ k) r) → StepFits (ahead_of k (ahead_of js r))
ahead_of-fits k js None h = tt
ahead_of-fits k js (Some s) h = rw (append_assoc s.1 js k) h

pattern-fits : (l : ℕ) (t : Token) (k : List Open) → Fits k → IsAfter k → StepFits (ahead_of k (as_pattern l t))
unfolding as_pattern
pattern-fits l (token.Symbol symbol.Underscore) k h p = h
pattern-fits l (token.Lower name) k h p = h
pattern-fits l (token.Num n) k h p = h
pattern-fits l (token.Upper name) k h p = (fields-left_out (pat (suc l)), p, h)
pattern-fits l _ k h p = tt

form-fits : (l : ℕ) (f : Form) (k : List Open) → Fits k → IsAfter k → StepFits (ahead_of k (as_expr l f))
form-fits l (form.Operation op) k h p = (tt, (refl, (tt, (refl, (tt, h)))))
form-fits l form.Conversion k h p = (tt, (tt, (refl, (tt, h))))
form-fits l form.Binding k h p = (tt, (tt, (tt, (tt, (refl, (tt, (p, h)))))))
form-fits l form.Matching k h p = (refl, (tt, some-fits (clause (suc l)) symbol.Comma symbol.CloseBrace k refl refl h))
form-fits l form.Other k h p = tt

begins-fits : (a : Kind) (t : Token) (k : List Open) → IsBegun a t k
unfolding begins
begins-fits (the s) t k h p = if_so-fits _ k [] h
begins-fits (the_word w) t k h p = if_so-fits _ k [] h
begins-fits a_lower (token.Lower name) k h p = h
begins-fits a_lower _ k h p = tt
begins-fits an_upper (token.Upper name) k h p = h
begins-fits an_upper _ k h p = tt
begins-fits a_number (token.Num n) k h p = h
begins-fits a_number _ k h p = tt
begins-fits a_width (token.Uint bits) k h p = if_so-fits _ k [] h
begins-fits a_width _ k h p = tt
begins-fits a_field (token.Num n) k h p = if_so-fits _ k [] h
begins-fits a_field _ k h p = tt
begins-fits a_type (token.Uint bits) k h p = if_so-fits _ k [] h
begins-fits a_type (token.Upper name) k h p = h
begins-fits a_type _ k h p = tt
begins-fits a_con (token.Upper name) k h p = (fields-left_out a_type, p, h)
begins-fits a_con _ k h p = tt
begins-fits a_param (token.Lower name) k h p = (tt, (tt, h))
begins-fits a_param _ k h p = tt
begins-fits (expr l) (token.Num n) k h p = h
begins-fits (expr l) (token.Lower name) k h p = (arguments-left_out (suc l), p, h)
begins-fits (expr l) (token.Upper name) k h p = (fields-left_out (expr (suc l)), p, h)
begins-fits (expr l) (token.Reserved w) k h p = form-fits l (form_of w) k h p
begins-fits (expr l) _ k h p = tt
begins-fits (arguments l) t k h p = if_so-fits _ k _ (refl, refl, h)
begins-fits (fields a) t k h p = if_so-fits _ k _ (some-fits a symbol.Comma symbol.CloseParen k refl refl h)
begins-fits (pat l) t k h p = pattern-fits l t k h p
begins-fits (clause l) t k h p =
    let js : List Open = one (the symbol.FatArrow) ∷ one (expr l) ∷ [] in ahead_of-fits k js (as_pattern l t) (pattern-fits l t (js ++ k) (tt, (p, h)) refl)
begins-fits into_field t k h p = if_so-fits _ k _ (tt, h)
begins-fits a_range t k h p = if_so-fits _ k _ (tt, (tt, (tt, (tt, h))))
begins-fits path_end (token.Symbol symbol.OpenBracket) k h p = (tt, (tt, (tt, (tt, h))))
begins-fits path_end (token.Reserved word.Word) k h p = (tt, h)
begins-fits path_end _ k h p = tt
begins-fits (part_kind l) (token.Symbol symbol.Equals) k h p = (tt, h)
begins-fits (part_kind l) (token.Symbol symbol.Dot) k h p = (tt, (into_field-left_out, p, (path_end-left_out, p, h)))
begins-fits (part_kind l) (token.Symbol symbol.Arrow) k h p = (tt, (tt, (refl, refl, h)))
begins-fits (part_kind l) _ k h p = tt
begins-fits (part l) t k h p = if_so-fits _ k _ (tt, (tt, (tt, (tt, (p, h)))))
begins-fits (lay_item l) (token.Reserved word.Word) k h p = (tt, (tt, (refl, refl, h)))
begins-fits (lay_item l) (token.Reserved word.Inline) k h p = (tt, (into_field-left_out, p, h))
begins-fits (lay_item l) _ k h p = tt
begins-fits loc_step t k h p = if_so-fits _ k _ (tt, (tt, (tt, (tt, (tt, (tt, h))))))
begins-fits (prov l) (token.Upper name) k h p = (fields-left_out (below (suc l)), p, h)
begins-fits (prov l) _ k h p = tt
begins-fits (below l) (token.Symbol symbol.Underscore) k h p = h
begins-fits (below l) (token.Upper name) k h p = (fields-left_out (below (suc l)), p, h)
begins-fits (below l) _ k h p = tt
begins-fits (tree l) (token.Reserved word.Split) k h p =
    (tt, (tt, (loc_step-left_out, refl, (tt, (arm-left_out (suc l), refl, (other-left_out (suc l), refl, (tt, h)))))))
begins-fits (tree l) (token.Upper name) k h p = (
  fields-left_out (below (suc (suc l))),
  refl,
  (
    tt,
    (
      tt,
      some-fits (lay_item (suc l)) symbol.Comma symbol.CloseBrace k refl refl h,
    ),
  ),
)
begins-fits (tree l) _ k h p = tt
begins-fits (arm l) (token.Num n) k h p = (tt, (tt, h))
begins-fits (arm l) _ k h p = tt
begins-fits (other l) t k h p = if_so-fits _ k _ (tt, (tt, h))
begins-fits layout_rest (token.Symbol symbol.Less) k h p = (tt, (refl, refl, (tt, (tt, (tt, h)))))
begins-fits layout_rest (token.Symbol symbol.Equals) k h p = (tt, (tt, h))
begins-fits layout_rest _ k h p = tt
begins-fits derived (token.Reserved word.Boxed) k h p = h
begins-fits derived (token.Reserved word.Packed) k h p = h
begins-fits derived _ k h p = tt
begins-fits item (token.Reserved word.Type) k h p = (tt, (tt, some-fits a_con symbol.Bar symbol.Semicolon k refl refl h))
begins-fits item (token.Reserved word.Layout) k h p = (tt, (tt, h))
begins-fits item (token.Reserved word.Fun) k h p = (tt, (tt, (refl, refl, (tt, (tt, (tt, (refl, (tt, h))))))))
begins-fits item _ k h p = tt

or_else-fits : (r s : Step) → StepFits r → StepFits s → StepFits (or_else r s)
or_else-fits None s h g = g
or_else-fits (Some x) s h g = h

if-fits : (b : Bool) (r s : Step) → StepFits r → StepFits s → StepFits (if b then r else s)
if-fits true r s h g = h
if-fits false r s h g = g

pub step-fits : (k : List Open) (t : Token) → Fits k → StepFits (step k t)
unfolding step
step-fits [] t h = tt
step-fits (one a ∷ k) t h = begins-fits a t k h.1 h.0
step-fits (maybe a ∷ k) t h = or_else-fits _ _ (begins-fits a t k h.2 (after_part (is_loose a) k h.1)) (step-fits k t h.2)
step-fits (many a ∷ k) t h = or_else-fits _ _ (begins-fits a t (many a ∷ k) h (after_part (is_loose a) _ h.1)) (step-fits k t h.2)
step-fits (first a close ∷ k) t h =
    if-fits (is_symbol close t) (Some (0, k)) _ h.2 (begins-fits a t (next a symbol.Comma close ∷ k) h (after_part (is_loose a) _ h.0))
step-fits (next a separator close ∷ k) t h =
    if-fits (is_symbol separator t) (Some (0, one a ∷ next a separator close ∷ k)) (if is_symbol close t then Some (0, k) else None)
    (some-fits a separator close k h.0 h.1 h.2) (if-fits (is_symbol close t) (Some (0, k)) None h.2 tt)

fits-behind : (ts : List Token) (k' : List Open) (o : Step) → StepFits o → goes_to o (λ j. steps j ts) ≡ Some k'
    → ((j : List Open) → Fits j → steps j ts ≡ Some k' → Fits k') → Fits k'
unfolding goes_to
fits-behind ts k' None h e g = cc
fits-behind ts k' (Some s) h e g = g s.1 h e

pub steps-fits : (ts : List Token) (k k' : List Open) → Fits k → steps k ts ≡ Some k' → Fits k'
unfolding steps
steps-fits [] k k' h e = let q : k ≡ k' = cc in subst Fits q h
steps-fits (t ∷ ts) k k' h e = fits-behind ts k' (step k t) (step-fits k t h) e (λ j f w. steps-fits ts j k' f w)
