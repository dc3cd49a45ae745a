-- Functions that a text can hold, by cases on the lists.
use Rattle.std.proofs.Common.{◌<◌, ◌^◌, List, [], ◌∷◌, All}
use Rattle.std.proofs.lemmas.List.Elements.{All-cons, All-nil, All-head, All-tail}
use Rattle.rb_target.specs.Text.{line_words}
use Rattle.rb_target.specs.Validity.{IsBounded, IsLower}
use Rattle.rb_target.specs.Spelled.{IsShort, IsSpelledInstr, IsSpelledFun, AreSpelled}
use Rattle.rb_target.specs.declared.instr.Instr.{Instr}
use Rattle.rb_target.specs.declared.word.LineWord.{LineWord}
use Rattle.rb_target.specs.declared.code.CodeFun.{CodeFun}

abbrev pub AreShort : List LineWord → Type 0
AreShort [] = Unit {0}
AreShort (w ∷ ws) = IsShort w × AreShort ws

pub record IsFit (i : Instr) : Type 0 where
  pub bounded : IsBounded i
  pub short : AreShort (line_words i)

abbrev pub AreFit : List Instr → Type 0
AreFit [] = Unit {0}
AreFit (i ∷ is) = IsFit i × AreFit is

pub record IsFitFun (f : CodeFun) : Type 0 where
  pub named : IsLower f.name
  pub counts : (f.params < 2 ^ 64) × (f.results < 2 ^ 64) × (f.slots < 2 ^ 64)
  pub body : AreFit f.body

abbrev pub AreFitFuns : List CodeFun → Type 0
AreFitFuns [] = Unit {0}
AreFitFuns (f ∷ fs) = IsFitFun f × AreFitFuns fs

short_fit : (ws : List LineWord) → All IsShort ws → AreShort ws
short_fit [] h = tt
short_fit (w ∷ ws) h = (All-head IsShort w ws h, short_fit ws (All-tail IsShort w ws h))

fit_short : (ws : List LineWord) → AreShort ws → All IsShort ws
fit_short [] h = All-nil IsShort
fit_short (w ∷ ws) h = All-cons IsShort w ws h.0 (fit_short ws h.1)

body_fit : (is : List Instr) → All IsSpelledInstr is → AreFit is
body_fit [] h = tt
body_fit (i ∷ is) h =
    let one : IsSpelledInstr i = All-head IsSpelledInstr i is h in
    (record { bounded = one.bounded; short = short_fit (line_words i) one.short }, body_fit is (All-tail IsSpelledInstr i is h))

fit_body : (is : List Instr) → AreFit is → All IsSpelledInstr is
fit_body [] h = All-nil IsSpelledInstr
fit_body (i ∷ is) h = All-cons IsSpelledInstr i is (record { bounded = h.0.bounded; short = fit_short (line_words i) h.0.short }) (fit_body is h.1)

pub funs_fit : (fs : List CodeFun) → AreSpelled fs → AreFitFuns fs
funs_fit [] h = tt
funs_fit (f ∷ fs) h =
    let one : IsSpelledFun f = All-head IsSpelledFun f fs h in
    (record { named = one.named; counts = (one.params, one.results, one.slots); body = body_fit f.body one.body }, funs_fit fs (All-tail IsSpelledFun f fs h))

pub fit_funs : (fs : List CodeFun) → AreFitFuns fs → AreSpelled fs
fit_funs [] h = All-nil IsSpelledFun
fit_funs (f ∷ fs) h =
    All-cons IsSpelledFun f fs (record { named = h.0.named; params = h.0.counts.0; results = h.0.counts.1; slots = h.0.counts.2; body = fit_body f.body h.0.body }) (fit_funs fs h.1)
