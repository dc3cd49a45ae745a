-- Provenances of a file that was read are well numbered.
use Rattle.std.proofs.Common.{◌≡◌, ℕ, suc, ◌+◌, ◌^◌, ◌<◌, ◌≤◌, List, [], ◌∷◌, map, length, Bool, true, false, Some, Ok, refl, sym, ◌∙◌, ap, subst, arith}
use Rattle.std.proofs.lemmas.Bool.{and_parts, and_from}
use Rattle.std.proofs.lemmas.Grind.{common_steps}
use Rattle.std.specs.List.{list_all}
use Rattle.rb_core.specs.declared.types.ConRef.{ConRef}
use Rattle.rb_core.specs.declared.types.DataDecl.{DataDecl}
use Rattle.rb_core.specs.declared.pattern.Pat.{Pat}
use Rattle.rb_core.specs.declared.pattern.Pat as C
use Rattle.rb_core.specs.declared.pattern.Pat.TheFolds.{fold-Pat}
use Rattle.rb_core.specs.Layouts.{is_short}
use Rattle.rb_core.specs.WellNumbered.{is_constructor, pattern_is_numbered, numbered_pattern_step, Below, either, may_be_below, below_step, is_provenance, provenance_is_numbered}
use Rattle.rb_core.proofs.PatternLaws.{fold-Wild, fold-Con}
use Rattle.rb_syntax.specs.declared.token.Token.TheVariants as tok
use Rattle.rb_syntax.specs.declared.token.Symbol.TheVariants as symbol
use Rattle.rb_syntax.specs.declared.tree.NameTree.{NameTree}
use Rattle.rb_syntax.specs.declared.tree.PatTree.{PatTree}
use Rattle.rb_syntax.specs.declared.tree.PatTree as P
use Rattle.rb_syntax.specs.Written.{Written, Writing, token, number, node, flaw, tokens_in, each_behind}
use Rattle.rb_syntax.specs.Spelling.{Deep, at_level, comma, fields_written, below_written, prov_written}
use Rattle.rb_syntax.proofs.LayoutSpelling.{below-Wild, below-Var, below-Num, below-Con}
use Rattle.rb_syntax.proofs.PatternInduction as pattern
use Rattle.rb_names.specs.declared.tables.Tables.{Tables}
use Rattle.rb_names.specs.Tables.{Name, meaning}
use Rattle.rb_names.specs.Numbering.{all_of, name_found, numbered_pattern}
use Rattle.rb_names.proofs.PatternEquations.{pattern-Wild, pattern-Con}
use Rattle.rb_names.proofs.Rising.{Right}
use Rattle.rb_names.proofs.Inverting.{then-ok, known-ok, ok-is}
use Rattle.rb_names.proofs.WellLists.{Each, each-of, each-passes, length-of-map, off-token, off-number, off-node, right-as, Is, Fine, is-as, Are, are-any}

pub at_level-of : {A : Type 0} (w : A → Deep) (l : ℕ) (xs : List A) → at_level l (map w xs) ≡ map (λ x. w x l) xs
at_level-of w l [] = refl
at_level-of w l (x ∷ xs) = ap (λ ws. w x l ∷ ws) (at_level-of w l xs)

-- a list of so few is short
pub short-of : (total : ℕ) → total < 2 ^ 32 → {A : Type 0} (xs : List A) → length xs ≤ total → is_short xs ≡ true
short-of total small xs h = let k : length xs < 2 ^ 32 = omega (arith, h, small) in grind (arith, common_steps, k)

either-right : (a b : Bool) → b ≡ true → either a b ≡ true
either-right true b e = refl
either-right false b e = e

con-written : (at : ℕ) (x : NameTree) (ps : List PatTree) (l : ℕ) (rest : List Written) → below_written (P.Con at x ps) l rest
    ≡ node l ∷ number at ∷ number x.at ∷ token (tok.Upper x.text) ∷ fields_written (map (λ p. below_written p (suc l)) ps) rest
con-written at x ps l rest = below-Con at x ps l rest
    ∙ ap (λ ws. node l ∷ number at ∷ number x.at ∷ token (tok.Upper x.text) ∷ fields_written ws rest) (at_level-of below_written (suc l) ps)

module _ (total : ℕ) (small : total < 2 ^ 32) (types : List DataDecl) (t : Tables)
    (known_con : (name : Name) (c : ConRef) → meaning t.constructors name ≡ Some c → is_constructor types c ≡ true) where
  abbrev no_size : Pat → ℕ
  no_size q = 0

  abbrev pub IsBelow : Pat → Type 0
  IsBelow q = (may_be_below (fold-Pat Below below_step q) ≡ true) × (pattern_is_numbered types q ≡ true)

  abbrev pub IsProvenance : Pat → Type 0
  IsProvenance q = provenance_is_numbered types q ≡ true

  abbrev below_at : ℕ → PatTree → Writing
  below_at l p rest = below_written p l rest

  abbrev BelowIs : ℕ → PatTree → List Written → Type 0
  BelowIs l = Is total PatTree Pat (numbered_pattern t []) no_size IsBelow (below_at l)

  abbrev BelowFine : PatTree → Type 0
  BelowFine p = (l : ℕ) → Fine total PatTree Pat (numbered_pattern t []) no_size IsBelow (below_at l) p

  abbrev BelowAre : ℕ → List PatTree → List Written → List Written → Type 0
  BelowAre l = Are total PatTree Pat (numbered_pattern t []) no_size IsBelow (below_at l)

  each-below : (ps : List PatTree) → pattern.Each BelowFine ps → (l : ℕ) → Each (Fine total PatTree Pat (numbered_pattern t []) no_size IsBelow (below_at l)) ps
  each-below [] h l = tt
  each-below (p ∷ ps) h l = (h.0 l, each-below ps h.1 l)

  record Fields (ps : List PatTree) (ws rest : List Written) : Type 0 where
    right : Right total rest
    count : length ps + length (tokens_in rest) ≤ length (tokens_in ws)
    well : (qs : List Pat) → all_of (map (numbered_pattern t []) ps) ≡ Ok qs → (length qs ≡ length ps) × Each IsBelow qs

  fields : (ps : List PatTree) → pattern.Each BelowFine ps → (l : ℕ) (rest : List Written) → Right total (fields_written (map (below_at l) ps) rest)
      → Fields ps (fields_written (map (below_at l) ps) rest) rest
  fields [] h l rest r = record { right = r; count = omega arith; well = λ qs e. rw (← ok-is [] qs e) (refl, tt) }
  fields (p ∷ ps) h l rest r =
      let close : List Written = token (tok.Symbol symbol.CloseParen) ∷ rest in
      let a : BelowAre l (p ∷ ps) (below_written p l (each_behind comma (map (below_at l) ps) close)) close =
      are-any total PatTree Pat (numbered_pattern t []) no_size IsBelow (below_at l) comma (p ∷ ps) (each-below (p ∷ ps) h l) close (off-token total _ _ r) in
      record {
        right = off-token total _ rest a.right;
        count = omega (arith, a.count);
        well = λ qs e. let v = a.well qs e in (v.same, v.good);
      }

  abbrev ConIs : (l : ℕ) (p : PatTree) (rest : List Written) → Type 0
  ConIs l p rest = Is total PatTree Pat (numbered_pattern t []) no_size IsProvenance (below_at l) p rest

  pub con-good : (at : ℕ) (c : ConRef) (qs : List Pat) → is_constructor types c ≡ true → length qs ≤ total → Each IsBelow qs → IsProvenance (C.Con at c qs)
  con-good at c qs k h g =
      let provenance : is_provenance (C.Con at c qs) ≡ true =
      ap (λ (b : Below). b.provenance) (fold-Con Below below_step at c qs)
      ∙ each-passes (fold-Pat Below below_step) may_be_below qs (each-of IsBelow (λ q. may_be_below (fold-Pat Below below_step q) ≡ true) (λ q b. b.0) qs g) in
      let short : is_short (map (pattern_is_numbered types) qs) ≡ true =
      short-of total small (map (pattern_is_numbered types) qs) (omega (arith, h, length-of-map (pattern_is_numbered types) qs)) in
      let all : list_all (λ b. b) (map (pattern_is_numbered types) qs) ≡ true =
      each-passes (pattern_is_numbered types) (λ b. b) qs (each-of IsBelow (λ q. pattern_is_numbered types q ≡ true) (λ q b. b.1) qs g) in
      and_from _ _ provenance (fold-Con Bool (numbered_pattern_step types) at c qs ∙ and_from _ _ k (and_from _ _ short all))

  con-is : (at : ℕ) (x : NameTree) (ps : List PatTree) → pattern.Each BelowFine ps → (l : ℕ) (rest : List Written)
      → Right total (below_written (P.Con at x ps) l rest) → ConIs l (P.Con at x ps) rest
  con-is at x ps h l rest r =
      let vs : List Written = fields_written (map (below_at (suc l)) ps) rest in
      let s : Right total (node l ∷ number at ∷ number x.at ∷ token (tok.Upper x.text) ∷ vs) = right-as total (con-written at x ps l rest) r in
      let a : Fields ps vs rest = fields ps h (suc l) rest (off-token total _ _ (off-number total _ _ (off-number total _ _ (off-node total _ _ s)))) in
      is-as total PatTree Pat (numbered_pattern t []) no_size IsProvenance (below_at l) (P.Con at x ps) rest _ (con-written at x ps l rest) a.right (omega (arith, a.count))
      (λ q e.
      let f = then-ok (name_found x (meaning t.constructors x.text)) _ q (sym (pattern-Con t [] at x ps) ∙ e) in
      let g = then-ok (all_of (map (numbered_pattern t []) ps)) _ q f.2 in
      let v = a.well g.0 g.1 in (
        omega (arith, a.count),
        subst IsProvenance (ok-is (C.Con at f.0 g.0) q g.2)
            (con-good at f.0 g.0 (known_con x.text f.0 (known-ok x (meaning t.constructors x.text) f.0 f.1)) (omega (arith, v.0, a.count, s.fits)) v.1),
      ))

  below-wild : (at : ℕ) → BelowFine (P.Wild at)
  below-wild at l rest r =
      let s : Right total (node l ∷ number at ∷ token (tok.Symbol symbol.Underscore) ∷ rest) = right-as total (below-Wild at l rest) r in
      is-as total PatTree Pat (numbered_pattern t []) no_size IsBelow (below_at l) (P.Wild at) rest _ (below-Wild at l rest)
      (off-token total _ _ (off-number total _ _ (off-node total _ _ s))) (omega arith)
      (λ q e. (
        omega arith,
        subst IsBelow (ok-is (C.Wild at) q (sym (pattern-Wild t [] at) ∙ e))
            (ap may_be_below (fold-Wild Below below_step at), fold-Wild Bool (numbered_pattern_step types) at),
      ))

  flawed : (Q : Type 0) (ws rest : List Written) → ws ≡ flaw ∷ rest → Right total ws → Q
  flawed Q ws rest e r = let s : Right total (flaw ∷ rest) = right-as total e r in absurd s.formed

  below-con : (at : ℕ) (x : NameTree) (ps : List PatTree) → pattern.Each BelowFine ps → BelowFine (P.Con at x ps)
  below-con at x ps h l rest r =
      let a : ConIs l (P.Con at x ps) rest = con-is at x ps h l rest r in record {
        right = a.right;
        shorter = a.shorter;
        well = λ q e. let v = a.well q e in let b = and_parts _ _ v.1 in (v.0, (either-right _ _ b.0, b.1));
      }

  below-fine : (p : PatTree) → BelowFine p
  below-fine = pattern.induction BelowFine (record {
    wild = below-wild;
    var = λ at x l rest r. flawed _ _ rest (below-Var at x l rest) r;
    num = λ at n l rest r. flawed _ _ rest (below-Num at n l rest) r;
    con = below-con;
  })

  each-fine : (ps : List PatTree) → pattern.Each BelowFine ps
  each-fine [] = tt
  each-fine (p ∷ ps) = (below-fine p, each-fine ps)

  abbrev pub prov_at : ℕ → PatTree → Writing
  prov_at l p rest = prov_written p l rest

  -- a provenance that is numbered is one of the program
  pub provenance-well : (p : PatTree) (l : ℕ) → Fine total PatTree Pat (numbered_pattern t []) no_size IsProvenance (prov_at l) p
  unfolding P.roll-PatTree denote.Hole.Carrier.roll P.out-PatTree denote.Hole.Carrier.out
  provenance-well = pattern.induction (λ p. (l : ℕ) → Fine total PatTree Pat (numbered_pattern t []) no_size IsProvenance (prov_at l) p) (record {
    wild = λ at l rest r. absurd r.formed;
    var = λ at x l rest r. flawed _ _ rest (below-Var at x l rest) r;
    num = λ at n l rest r. flawed _ _ rest (below-Num at n l rest) r;
    con = λ at x ps h l rest r. let a : ConIs l (P.Con at x ps) rest = con-is at x ps (each-fine ps) l rest r in
        record { right = a.right; shorter = a.shorter; well = a.well };
  })
