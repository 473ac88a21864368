-- The names that each form of expression reads, and lists that are gone through.
use Rattle.std.proofs.Common.{◌≡◌, ◌<◌, ◌≤◌, ◌+◌, ◌++◌, [], ◌∷◌, refl, true, false, ℕ, List, Vec, Global, length, map, slice_index_or, take, sym, ap, subst, ◌∙◌, true≢false}
use Rattle.std.specs.List.{flat_map}
use Rattle.std.proofs.lemmas.List.{append-nil, append_assoc, flat_map_more, map-append, map_more, take_all, take_more}
use Rattle.vl_ast.specs.declared.expressions.BinOp.{BinOp}
use Rattle.vl_ast.specs.declared.expressions.Sized.{Sized}
use Rattle.vl_ast.specs.declared.expressions.Expr.{Expr}
use Rattle.vl_ast.specs.declared.expressions.Expr.TheOpen.{Expr-F}
use Rattle.vl_ast.specs.declared.expressions.Expr.TheVariants.{Name, Bit, Part, Literal, Concat, Binary, Choose}
use Rattle.vl_ast.specs.declared.expressions.Expr.TheVariants.{rolls-Name, rolls-Bit, rolls-Part, rolls-Literal, rolls-Concat, rolls-Binary, rolls-Choose}
use Rattle.vl_ast.specs.declared.expressions.Expr.TheFolds.{fold-roll-Expr}
use Rattle.vl_ast.specs.Conditions.{mentioned}
use Rattle.vl_ast.specs.Nets.{Mention, Reads, names_read, names_step}
use Rattle.vl_check.specs.declared.mentions.Mention.{Mention as MentionHere}
use Rattle.vl_check.specs.declared.mentions.Mentions.{Mentions}
use Rattle.vl_check.specs.inner.Mentions.{Puts, mention_of, shown}

pub names-binary : (op : BinOp) (l r : Expr) → names_read (Binary op l r) ≡ names_read l ++ names_read r
names-binary op l r = ap names_read (sym (rolls-Binary op l r)) ∙ fold-roll-Expr (List (List ℕ)) names_step (Expr-F.Binary op l r)

pub names-choose : (t c o : Expr) → names_read (Choose t c o) ≡ names_read t ++ (names_read c ++ names_read o)
names-choose t c o = ap names_read (sym (rolls-Choose t c o)) ∙ fold-roll-Expr (List (List ℕ)) names_step (Expr-F.Choose t c o)

flat-map : (xs : List Expr) → flat_map (λ part. part) (map names_read xs) ≡ flat_map names_read xs
flat-map [] = refl
flat-map (x ∷ xs) = ap (λ ys. names_read x ++ ys) (flat-map xs)

names-concat : (parts : List Expr) → names_read (Concat parts) ≡ flat_map names_read parts
names-concat parts = ap names_read (sym (rolls-Concat parts)) ∙ fold-roll-Expr (List (List ℕ)) names_step (Expr-F.Concat parts) ∙ flat-map parts

-- what is made of the items of a list, an item further
pub mapped-further : {A B : Type 0} (f : A → B) (items xs : List A) (i : ℕ) (x : A) → items ≡ xs → i < length items
    → x ≡ slice_index_or items i x → map f (take (i + 1) xs) ≡ map f (take i xs) ++ f x ∷ []
mapped-further f items xs i x are below is =
    subst (λ ys. map f (take (i + 1) ys) ≡ map f (take i ys) ++ f x ∷ []) are
    (map_more f items i x below ∙ ap (λ y. map f (take i items) ++ f y ∷ []) (sym is))

pub joined-further : {A B : Type 0} (f : A → List B) (old : List B) (items xs : List A) (i : ℕ) (x : A) → items ≡ xs
    → i < length items → x ≡ slice_index_or items i x
    → (old ++ flat_map f (take i xs)) ++ f x ≡ old ++ flat_map f (take (i + 1) xs)
joined-further f old items xs i x are below is =
    subst (λ ys. (old ++ flat_map f (take i ys)) ++ f x ≡ old ++ flat_map f (take (i + 1) ys)) are
    (flat_map_more f old (take i items) x ∙ ap (λ ys. old ++ flat_map f ys) (sym (take_more items i x below ∙ ap (λ y. take i items ++ y ∷ []) (sym is))))

-- places that are put, and what a text has so far
pub both : {old mid new : Mentions} {first second : List Mention} → Puts old mid first → Puts mid new second → Puts old new (first ++ second)
both {old} {mid} {new} {first} {second} one two = record {
  whole = λ enough.
      let last = two.whole enough in
      let before = one.whole last.0 in
      (before.0, last.1 ∙ ap (λ (xs : List Mention). xs ++ second) before.1 ∙ append_assoc (shown old.all.items) first second);
}

pub puts-as : {old new : Mentions} {first second : List Mention} → first ≡ second → Puts old new first → Puts old new second
puts-as {old} {new} is one = subst (λ (more : List Mention). Puts old new more) is one

pub none-put : (mentions : Mentions) → Puts mentions mentions []
none-put mentions = record { whole = λ enough. (enough, sym (append-nil (shown mentions.all.items))) }

pub refused : (old : Mentions) (all : Vec MentionHere Global) (more : List Mention) → Puts old (record { all = all; wanting = true }) more
refused old all more = record { whole = λ enough. absurd (true≢false enough) }

pub one-put : (old : Mentions) (all : Vec MentionHere Global) (x : MentionHere) → all.items ≡ old.all.items ++ x ∷ [] → Puts old (record { all = all; wanting = old.wanting }) (mention_of x ∷ [])
one-put old all x is = record { whole = λ enough. (enough, ap shown is ∙ map-append mention_of old.all.items (x ∷ [])) }

-- the names of an expression, by its form
puts-of : {old new : Mentions} {names : List (List ℕ)} (e made : Expr) → e ≡ made → names_read made ≡ names → Puts old new (map Reads names) → Puts old new (map Reads (names_read e))
puts-of e made is names put = puts-as (ap (map Reads) (sym names) ∙ ap (λ (x : Expr). map Reads (names_read x)) (sym is)) put

pub reads-name : {old new : Mentions} (name : List ℕ) (e : Expr) → e ≡ Name name → Puts old new (Reads name ∷ []) → Puts old new (map Reads (names_read e))
reads-name name e is put = puts-of e (Name name) is (ap names_read (sym (rolls-Name name)) ∙ fold-roll-Expr (List (List ℕ)) names_step (Expr-F.Name name)) put

pub reads-bit : {old new : Mentions} (name : List ℕ) (place : ℕ) (e : Expr) → e ≡ Bit name place → Puts old new (Reads name ∷ []) → Puts old new (map Reads (names_read e))
reads-bit name place e is put = puts-of e (Bit name place) is (ap names_read (sym (rolls-Bit name place)) ∙ fold-roll-Expr (List (List ℕ)) names_step (Expr-F.Bit name place)) put

pub reads-part : {old new : Mentions} (name : List ℕ) (high low : ℕ) (e : Expr) → e ≡ Part name high low → Puts old new (Reads name ∷ []) → Puts old new (map Reads (names_read e))
reads-part name high low e is put = puts-of e (Part name high low) is (ap names_read (sym (rolls-Part name high low)) ∙ fold-roll-Expr (List (List ℕ)) names_step (Expr-F.Part name high low)) put

pub reads-literal : (old : Mentions) (number : Sized) (e : Expr) → e ≡ Literal number → Puts old old (map Reads (names_read e))
reads-literal old number e is = puts-of e (Literal number) is (ap names_read (sym (rolls-Literal number)) ∙ fold-roll-Expr (List (List ℕ)) names_step (Expr-F.Literal number)) (none-put old)

pub reads-binary : {old mid new : Mentions} (op : BinOp) (l r e : Expr) → e ≡ Binary op l r
    → Puts old mid (map Reads (names_read l)) → Puts mid new (map Reads (names_read r))
    → Puts old new (map Reads (names_read e))
reads-binary op l r e is first second =
    puts-of e (Binary op l r) is (names-binary op l r) (puts-as (sym (map-append Reads (names_read l) (names_read r))) (both first second))

pub reads-choose : {old one two new : Mentions} (t c o e : Expr) → e ≡ Choose t c o
    → Puts old one (map Reads (names_read t)) → Puts one two (map Reads (names_read c))
    → Puts two new (map Reads (names_read o))
    → Puts old new (map Reads (names_read e))
reads-choose t c o e is first second third =
    puts-of e (Choose t c o) is (names-choose t c o) (puts-as
    (sym (map-append Reads (names_read t) (names_read c ++ names_read o) ∙ ap (λ xs. map Reads (names_read t) ++ xs) (map-append Reads (names_read c) (names_read o))))
    (both first (both second third)))

-- parts of a list, one after another
pub part-more : {old mid new : Mentions} (items : List Expr) (i : ℕ) (part got : Expr) → i < length items → part ≡ slice_index_or items i part → got ≡ part
    → Puts old mid (map Reads (flat_map names_read (take i items))) → Puts mid new (map Reads (names_read got)) → Puts old new (map Reads (flat_map names_read (take (i + 1) items)))
part-more items i part got below is same before put =
    puts-as (sym (map-append Reads (flat_map names_read (take i items)) (names_read got)) ∙ ap (map Reads)
    (ap (λ (x : Expr). flat_map names_read (take i items) ++ names_read x) same ∙ joined-further names_read [] items items i part refl below is))
    (both before put)

pub reads-concat : {old new : Mentions} (parts items : List Expr) (i : ℕ) (e : Expr) → e ≡ Concat parts
    → items ≡ parts → length items ≤ i → Puts old new (map Reads (flat_map names_read (take i items)))
    → Puts old new (map Reads (names_read e))
reads-concat parts items i e is are past put =
    puts-of e (Concat parts) is (names-concat parts) (puts-as (ap (λ (xs : List Expr). map Reads (flat_map names_read xs)) (take_all i items past ∙ are)) put)

-- what a text has so far, unless memory was wanting
pub record Has (mentions : Mentions) (text : List Mention) : Type 0 where
  pub whole : mentions.wanting ≡ false → shown mentions.all.items ≡ text

pub none-had : (all : Vec MentionHere Global) → all.items ≡ [] → Has (record { all = all; wanting = false }) []
none-had all none = record { whole = λ enough. ap shown none }

pub has-more : {old new : Mentions} {text more : List Mention} → Has old text → Puts old new more → Has new (text ++ more)
has-more {old} {new} {text} {more} has put = record {
  whole = λ enough. let last = put.whole enough in last.1 ∙ ap (λ (xs : List Mention). xs ++ more) (has.whole last.0);
}

pub has-as : {mentions : Mentions} {first second : List Mention} → first ≡ second → Has mentions first → Has mentions second
has-as {mentions} is has = subst (λ (text : List Mention). Has mentions text) is has

-- the names of places at which names are read
pub names-of-reads : (names : List (List ℕ)) → map mentioned (map Reads names) ≡ names
names-of-reads [] = refl
names-of-reads (name ∷ names) = ap (λ (xs : List (List ℕ)). name ∷ xs) (names-of-reads names)
