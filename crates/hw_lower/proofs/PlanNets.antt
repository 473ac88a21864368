-- The nets of a plan, one after another.
use Rattle.std.proofs.Common.{◌≡◌, ℕ, zero, suc, ◌+◌, ◌-◌, ◌<◌, ◌≤◌, ◌⊎◌, inl, inr, false, List, [], ◌∷◌, ◌++◌, take, map, length, All, Contains, slice_get, slice_index_or, Some, ap, sym, ◌∙◌, subst}
use Rattle.std.proofs.Common.{arith, refl, length-append}
use Rattle.std.proofs.lemmas.Bool.{cases_lt}
use Rattle.std.proofs.lemmas.List.{length-map}
use Rattle.std.proofs.lemmas.List.Elements.{All-map, Contains-get_or}
use Rattle.std.proofs.lemmas.Option.{none-some, same_Some, slice_get_within, slice_get-get_or, get_or_from_slice_get}
use Rattle.hw_net.specs.declared.netlist.Net.{Net}
use Rattle.hw_net.specs.declared.netlist.NetKind.TheVariants.{Comb}
use Rattle.hw_net.specs.declared.netlist.NetOp.{NetOp}
use Rattle.hw_net.specs.declared.netlist.NetOp.TheVariants.{Input, Const, Resize, ShiftUp, ShiftDown, Add, Subtract, Negate, Multiply, And, Or, Xor, Not, Less, Equal, Choose, Slice}
use Rattle.hw_net.specs.Circuit.{Circuit}
use Rattle.hw_net.specs.Operation.{arity}
use Rattle.hw_net.specs.Netlist.{HasWord, HasBits, HasParts as NetHasParts}
use Rattle.hw_net.specs.Growing.{Extends, IsAppended, with_net}
use Rattle.hw_net.proofs.Growth.{extends-one, still-there, word-stays, one-longer, appends-self, appends-one, appends-trans, differ-other, IsNamed}
use Rattle.math_list.proofs.Places.{last_at, get_left}
use Rattle.hw_lower.specs.declared.plan.Step.{Step}
use Rattle.hw_lower.specs.inner.PlanSteps.{IsSound, HasParts, reads_of}
use Rattle.hw_lower.specs.inner.Spread.{IsInner}
use Rattle.hw_lower.specs.inner.PlanNets.{number_of, net_of, net_by, AreNumbers, AreNets, CanPut}

-- what stands past the end of a plan
abbrev pub none-step : Step
none-step = record { op = Input 0; first = 0; second = 0; third = 0; word = record { signed = false; width = 0 } }

-- Numbers of nets.

pub number-given : (args : List ℕ) (base place : ℕ) → place < length args → slice_get args place ≡ Some (number_of args base place)
number-given [] base place h = absurd (omega arith)
number-given (arg ∷ args) base zero h = refl
number-given (arg ∷ args) base (suc place) h = number-given args base place (omega arith)

pub number-later : (args : List ℕ) (base k : ℕ) → number_of args base (length args + k) ≡ base + k
number-later [] base k = ap (λ (n : ℕ). base + n) (let e : 0 + k ≡ k = omega arith in e)
number-later (arg ∷ args) base k =
    let e : length (arg ∷ args) + k ≡ suc (length args + k) = omega arith in
    ap (number_of (arg ∷ args) base) e ∙ number-later args base k

contains-at : (xs : List ℕ) (k x : ℕ) → slice_get xs k ≡ Some x → Contains xs x
contains-at xs k x at = (k, slice_get_within xs k x at, get_or_from_slice_get xs k x x at)

-- a place of the plan is an argument or one behind them
record IsBehind (args : List ℕ) (place : ℕ) : Type 0 where
  pub k : ℕ
  pub is : place ≡ length args + k

place-cases : (args : List ℕ) (place : ℕ) → (place < length args) ⊎ IsBehind args place
place-cases args place =
    elim (cases_lt place (length args)) [
      | inl less ↦ inl less
      | inr more ↦ inr (record { k = place - length args; is = omega arith })
    ]

module _ (before now : Circuit) (steps : List Step) (args : List ℕ) (place : ℕ) (can : CanPut before steps args) (are : AreNets before now args steps place) where
  behind-number : (read : ℕ) (behind : IsBehind args read) → number_of args (length before.nets) read ≡ length before.nets + behind.k
  behind-number read behind = ap (number_of args (length before.nets)) behind.is ∙ number-later args (length before.nets) behind.k

  -- the net of a step before has its word
  pub word-at : (read : ℕ) (step : Step) → read < place → slice_get steps read ≡ Some step → HasWord now.nets (number_of args (length before.nets) read) step.word.width step.word.signed
  word-at read step earlier there =
      elim (place-cases args read) [
        | inl given ↦
            let number : ℕ = number_of args (length before.nets) read in
            word-stays before now number step.word.width step.word.signed are.appends.extends (can.words read number step (number-given args (length before.nets) read given) there)
        | inr behind ↦
            let at : slice_get steps (length args + behind.k) ≡ Some step = ap (slice_get steps) (sym behind.is) ∙ there in
            let net : slice_get now.nets (length before.nets + behind.k) ≡ Some (net_of args (length before.nets) step) = are.each behind.k step (omega (arith, behind.is, earlier)) at in
            record {
              net = net_of args (length before.nets) step;
              is = ap (slice_get now.nets) (behind-number read behind) ∙ net;
              wide = refl;
              sign = refl;
            }
      ]

  number-within : (default : Step) (read : ℕ) → read < place → read < length steps → number_of args (length before.nets) read < length now.nets
  number-within default read earlier inside =
      let has = word-at read (slice_index_or steps read default) earlier (slice_get-get_or steps read default inside) in
      slice_get_within now.nets (number_of args (length before.nets) read) has.net has.is

  number-named : (read : ℕ) → read < place → IsNamed before now args (number_of args (length before.nets) read)
  number-named read earlier =
      elim (place-cases args read) [
        | inl given ↦ inl (contains-at args read (number_of args (length before.nets) read) (number-given args (length before.nets) read given))
        | inr behind ↦ inr (omega (arith, behind-number read behind), omega (arith, behind-number read behind, are.size, behind.is, earlier))
      ]

arity-length : (op : NetOp) (f : ℕ → ℕ) (a b c : ℕ) → length (map f (take (arity op) (a ∷ b ∷ c ∷ []))) ≡ arity op
arity-length (Input number) f a b c = refl
arity-length (Const value) f a b c = refl
arity-length Resize f a b c = refl
arity-length (ShiftUp places) f a b c = refl
arity-length (ShiftDown places) f a b c = refl
arity-length Add f a b c = refl
arity-length Subtract f a b c = refl
arity-length Negate f a b c = refl
arity-length Multiply f a b c = refl
arity-length And f a b c = refl
arity-length Or f a b c = refl
arity-length Xor f a b c = refl
arity-length Not f a b c = refl
arity-length Less f a b c = refl
arity-length Equal f a b c = refl
arity-length Choose f a b c = refl
arity-length (Slice high low) f a b c = refl

-- the bits of a Slice are there
slice-bits : (nets : List Net) (number high low : ℕ) → low ≤ high → ((net : Net) → slice_get nets number ≡ Some net → high < net.width) → HasBits nets (number ∷ []) high low
slice-bits nets number high low order wide = record {
  ordered = order;
  within = λ k read net at there. by k read net at there;
}
  where
    by : (k read : ℕ) (net : Net) → slice_get (number ∷ []) k ≡ Some read → slice_get nets read ≡ Some net → high < net.width
    by zero read net at there = wide net (ap (slice_get nets) (same_Some number read at) ∙ there)
    by (suc k) read net at there = absurd (none-some read at)

-- where every step before the place has a net of its word
abbrev HaveWords : List Step → List Net → (ℕ → ℕ) → ℕ → Type 0
HaveWords steps nets f place = (read : ℕ) (step : Step) → read < place → slice_get steps read ≡ Some step → HasWord nets (f read) step.word.width step.word.signed

-- an input is no operation of steps
pub no-input : (number : ℕ) → IsInner (Input number) → ⊥
no-input number (inl plain) = plain
no-input number (inr e) =
    let two : 0 ≡ 2 = ap arity e in
    absurd (omega (arith, two))

parts-there : (steps : List Step) (nets : List Net) (inputs place : ℕ) (op : NetOp) (f : ℕ → ℕ) (a b c : ℕ) → IsInner op → HasParts steps a op
    → All (λ read. read < place) (take (arity op) (a ∷ b ∷ c ∷ [])) → HaveWords steps nets f place → (default : Step) → place ≤ length steps
    → NetHasParts nets inputs (map f (take (arity op) (a ∷ b ∷ c ∷ []))) op
parts-there steps nets inputs place (Input number) f a b c inner has earlier words default inside = absurd (no-input number inner)
parts-there steps nets inputs place (Const value) f a b c inner has earlier words default inside = tt
parts-there steps nets inputs place Resize f a b c inner has earlier words default inside = tt
parts-there steps nets inputs place (ShiftUp places) f a b c inner has earlier words default inside = tt
parts-there steps nets inputs place (ShiftDown places) f a b c inner has earlier words default inside = tt
parts-there steps nets inputs place Add f a b c inner has earlier words default inside = tt
parts-there steps nets inputs place Subtract f a b c inner has earlier words default inside = tt
parts-there steps nets inputs place Negate f a b c inner has earlier words default inside = tt
parts-there steps nets inputs place Multiply f a b c inner has earlier words default inside = tt
parts-there steps nets inputs place And f a b c inner has earlier words default inside = tt
parts-there steps nets inputs place Or f a b c inner has earlier words default inside = tt
parts-there steps nets inputs place Xor f a b c inner has earlier words default inside = tt
parts-there steps nets inputs place Not f a b c inner has earlier words default inside = tt
parts-there steps nets inputs place Less f a b c inner has earlier words default inside = tt
parts-there steps nets inputs place Equal f a b c inner has earlier words default inside = tt
parts-there steps nets inputs place Choose f a b c inner has earlier words default inside = tt
parts-there steps nets inputs place (Slice high low) f a b c inner has earlier words default inside =
    let step : Step = slice_index_or steps a default in
    let first : a < place = earlier 0 0 (omega arith) in
    let at : slice_get steps a ≡ Some step = slice_get-get_or steps a default (omega (arith, first, inside)) in
    let own = words a step first at in
    slice-bits nets (f a) high low has.0 (λ net there.
    let same : own.net ≡ net = same_Some own.net net (sym own.is ∙ there) in
    let wide : net.width ≡ step.word.width = ap (λ (n : Net). n.width) (sym same) ∙ own.wide in
    let below = has.1 step at in
    omega (arith, below, wide))

-- a net reads what its step reads
pub net-same : (args : List ℕ) (base place : ℕ) (numbers : List ℕ) (step : Step)
    → AreNumbers args base place numbers → All (λ read. read < place) (reads_of step)
    → net_by numbers step ≡ net_of args base step
net-same args base place numbers step are earlier =
    ap (λ (xs : List ℕ). record { signed = step.word.signed; width = step.word.width; kind = Comb step.op xs }) (by (reads_of step) earlier)
  where
    by : (xs : List ℕ) → All (λ read. read < place) xs → map (λ read. slice_index_or numbers read 0) xs ≡ map (number_of args base) xs
    by [] h = refl
    by (x ∷ xs) h =
        let one : slice_index_or numbers x 0 ≡ number_of args base x = get_or_from_slice_get numbers x (number_of args base x) 0 (are.each x (h 0 0 (omega arith))) in
        let rest : map (λ read. slice_index_or numbers read 0) xs ≡ map (number_of args base) xs = by xs (λ k d within. h (suc k) d (omega arith)) in
        cc

-- the numbers of one step more
pub numbers-more : (args : List ℕ) (base place number : ℕ) (numbers : List ℕ) → AreNumbers args base place numbers
    → length args ≤ place → number + length args ≡ base + place
    → AreNumbers args base (place + 1) (numbers ++ number ∷ [])
numbers-more args base place number numbers are past is = record {
  size = length-append numbers (number ∷ []) ∙ omega (arith, are.size);
  each = λ read inside.
      elim (cases_lt read place) [
        | inl less ↦ get_left numbers (number ∷ []) read (number_of args base read) (are.each read less)
        | inr more ↦
            let last : read ≡ length numbers = omega (arith, are.size) in
            let k : ℕ = place - length args in
            let behind : read ≡ length args + k = omega arith in
            let value : number_of args base read ≡ number = ap (number_of args base) behind ∙ number-later args base k ∙ omega arith in
            ap (slice_get (numbers ++ number ∷ [])) last ∙ last_at numbers number ∙ ap Some (sym value)
      ];
}

pub numbers-begun : (args : List ℕ) (base : ℕ) → AreNumbers args base (length args) args
numbers-begun args base = record { size = refl; each = λ place inside. number-given args base place inside }

pub nets-begun : (before : Circuit) (args : List ℕ) (steps : List Step) → AreNets before before args steps (length args)
nets-begun before args steps = record {
  size = refl;
  appends = appends-self before args;
  each = λ k step inside. absurd (omega arith);
}

-- one net more
module _ (before now new : Circuit) (steps : List Step) (args : List ℕ) (place : ℕ) (step : Step)
    (can : CanPut before steps args) (past : length args ≤ place) (there : slice_get steps place ≡ Some step)
    (are : AreNets before now args steps place) (grown : new ≡ with_net now (net_of args (length before.nets) step)) where
  inside : place ≤ length steps
  inside = omega (arith, slice_get_within steps place step there)

  grows : Extends now new
  grows = extends-one now new (net_of args (length before.nets) step) grown

  sound : IsSound steps place step
  sound = can.sound place step past there

  words : HaveWords steps new.nets (number_of args (length before.nets)) place
  words read other earlier at = word-stays now new
      (number_of args (length before.nets) read) other.word.width other.word.signed grows
      (word-at before now steps args place can are read other earlier at)

  appended : IsAppended now new (map (number_of args (length before.nets)) (reads_of step)) (length now.nets) (net_of args (length before.nets) step)
  appended = record {
    word = sound.word;
    kind = (
      arity-length step.op (number_of args (length before.nets)) step.first step.second step.third,
      parts-there steps new.nets (length new.inputs) place step.op
          (number_of args (length before.nets)) step.first step.second step.third
          (can.inner place step past there) sound.parts sound.before words step inside,
    );
    there = All-map (λ (read : ℕ). read < length new.nets) (number_of args (length before.nets)) (reads_of step)
        (λ k d within.
        let read : ℕ = slice_index_or (reads_of step) k d in
        let earlier : read < place = sound.before k d within in
        let size = one-longer now new (net_of args (length before.nets) step) grown in
        let own = number-within before now steps args place can are step read earlier (omega (arith, earlier, inside)) in
        omega (arith, own, size));
    allowed = λ k d within. inl (Contains-get_or (map (number_of args (length before.nets)) (reads_of step)) k d within);
    now = λ k d within. inl (Contains-get_or (map (number_of args (length before.nets)) (reads_of step)) k d within);
    counted = λ frame names. absurd (none-some frame names);
  }

  wider : (read : ℕ) → Contains (map (number_of args (length before.nets)) (reads_of step)) read → IsNamed before now args read
  wider read has =
      let size : length (map (number_of args (length before.nets)) (reads_of step)) ≡ length (reads_of step) = length-map (reads_of step) (number_of args (length before.nets)) in
      let named : All (IsNamed before now args) (map (number_of args (length before.nets)) (reads_of step)) =
      All-map (IsNamed before now args) (number_of args (length before.nets)) (reads_of step)
      (λ k d within. number-named before now steps args place can are (slice_index_or (reads_of step) k d)
      (sound.before k d within)) in
      subst (IsNamed before now args) has.2 (named has.0 read has.1)

  pub nets-more : AreNets before new args steps (place + 1)
  nets-more = record {
    size = omega (arith, one-longer now new (net_of args (length before.nets) step) grown, are.size);
    appends = appends-trans before now new args (map (number_of args (length before.nets)) (reads_of step)) wider are.appends
        (appends-one now new (net_of args (length before.nets) step)
        (map (number_of args (length before.nets)) (reads_of step)) grown appended
        (differ-other now.nets (net_of args (length before.nets) step) refl));
    each = λ k other within at.
        elim (cases_lt (length args + k) place) [
          | inl less ↦ still-there now new (length before.nets + k) (net_of args (length before.nets) other) grows (are.each k other less at)
          | inr more ↦
              let last : length args + k ≡ place = omega arith in
              let same : step ≡ other = same_Some step other (sym there ∙ ap (slice_get steps) (sym last) ∙ at) in
              let end : length before.nets + k ≡ length now.nets = omega (arith, are.size) in
              ap (slice_get new.nets) end ∙ ap (λ (x : Circuit). slice_get x.nets (length now.nets)) grown ∙ last_at now.nets (net_of args (length before.nets) step)
              ∙ ap (λ (s : Step). Some (net_of args (length before.nets) s)) same
        ];
  }
