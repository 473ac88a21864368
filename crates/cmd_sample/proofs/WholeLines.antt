-- Whole lines that stand for a part of a tree, put one after another.
use Rattle.std.proofs.Common.{◌≡◌, ℕ, zero, suc, ◌+◌, ◌<◌, Bool, true, not, List, [], ◌∷◌, ◌++◌, map, flat_map, inl, inr, refl, sym, ◌∙◌, ap, subst, append_assoc, append-nil, arith}
use Rattle.std.specs.Prelude.{◌==◌, ◌&&◌}
use Rattle.std.specs.List.{list_all, range_with_len, AllByRecursion}
use Rattle.std.proofs.lemmas.Bool.{and_parts}
use Rattle.std.proofs.lemmas.List.Concat.{flat_map-append}
use Rattle.fx_io.specs.FaultLine.{IsOneLine}
use Rattle.fx_io.proofs.FaultLines.{line_join}
use Rattle.fx_text.specs.Strings.{is_char, is_plain, char_bytes, char_value, quoted}
use Rattle.fx_text.specs.Strings.Char.{Plain}
use Rattle.mdl_text.specs.declared.tree.Item.{Item}
use Rattle.mdl_text.specs.declared.tree.Value.TheVariants.{Section, Bare, Quoted}
use Rattle.mdl_text.specs.Bytes.{is_blank, lines_of, AreBlanks, IsName}
use Rattle.mdl_text.specs.Lines.{IsBare, GivesParameter}
use Rattle.mdl_text.specs.Prefix.{IsMdl}
use Rattle.mdl_text.specs.Stands.{Says, Part, HasForm, Builds}
use Rattle.mdl_text.specs.Stands.Says.{Nothing, Entry, End}
use Rattle.mdl_text.proofs.LineLaws.{lines_next, name_line}

-- the bytes are whole lines; from a place in so many sections they say items, and lead to a place in so many
pub record Spelled (from : ℕ) (bytes : List ℕ) (to : ℕ) : Type 0 where
  pub parts : List Part
  pub each : AllByRecursion (λ part. HasForm part.lines part.says) parts
  pub whole : (more : List ℕ) → lines_of (bytes ++ more) ≡ flat_map (λ part. part.lines) parts ++ lines_of more
  pub items : List Item
  pub builds : (more : List Says) (rest : List Item) → Builds to more rest → Builds from (flat_map (λ part. part.says ∷ []) parts ++ more) (items ++ rest)

each_append : {X : Type 0} (P : X → Type 0) (xs ys : List X) → AllByRecursion P xs → AllByRecursion P ys → AllByRecursion P (xs ++ ys)
each_append P [] ys one other = other
each_append P (x ∷ xs) ys one other = (one.0, each_append P xs ys one.1 other)

-- nothing
pub empty : (depth : ℕ) → Spelled depth [] depth
empty depth = record { parts = []; each = tt; whole = λ more. refl; items = []; builds = λ more rest built. built }

-- one text behind another
pub joined : {from between to : ℕ} {one other : List ℕ} → Spelled from one between → Spelled between other to → Spelled from (one ++ other) to
joined {from} {between} {to} {one} {other} first second = record {
  parts = first.parts ++ second.parts;
  each = each_append (λ part. HasForm part.lines part.says) first.parts second.parts first.each second.each;
  whole = λ more.
      ap lines_of (append_assoc one other more) ∙ first.whole (other ++ more)
      ∙ ap (λ lines. flat_map (λ (part : Part). part.lines) first.parts ++ lines) (second.whole more)
      ∙ sym (append_assoc (flat_map (λ (part : Part). part.lines) first.parts) (flat_map (λ (part : Part). part.lines) second.parts) (lines_of more))
      ∙ ap (λ lines. lines ++ lines_of more) (sym (flat_map-append (λ (part : Part). part.lines) first.parts second.parts));
  items = first.items ++ second.items;
  builds = λ more rest built.
      let all = first.builds (flat_map (λ (part : Part). part.says ∷ []) second.parts ++ more) (second.items ++ rest) (second.builds more rest built) in
      let says : flat_map (λ (part : Part). part.says ∷ []) first.parts
      ++ (flat_map (λ (part : Part). part.says ∷ []) second.parts ++ more)
      ≡ flat_map (λ (part : Part). part.says ∷ []) (first.parts ++ second.parts) ++ more =
      sym (append_assoc (flat_map (λ (part : Part). part.says ∷ []) first.parts) (flat_map (λ (part : Part). part.says ∷ []) second.parts) more)
      ∙ ap (λ said. said ++ more) (sym (flat_map-append (λ (part : Part). part.says ∷ []) first.parts second.parts)) in
      subst (λ said. Builds from said ((first.items ++ second.items) ++ rest)) says
      (subst (Builds from (flat_map (λ (part : Part). part.says ∷ []) first.parts
      ++ (flat_map (λ (part : Part). part.says ∷ []) second.parts ++ more)))
      (sym (append_assoc first.items second.items rest)) all);
}

-- the same bytes, written otherwise
pub same_bytes : {from to : ℕ} {one other : List ℕ} → one ≡ other → Spelled from one to → Spelled from other to
same_bytes {from} {to} same spelled = subst (λ bytes. Spelled from bytes to) same spelled

-- a text for each number of a range
pub ranged : (depth : ℕ) (f : ℕ → List ℕ) (from count : ℕ) → ((n : ℕ) → n < from + count → Spelled depth (f n) depth) → Spelled depth (flat_map f (range_with_len from count)) depth
ranged depth f from zero each = empty depth
ranged depth f from (suc count) each = joined (each from (omega arith)) (ranged depth f (from + 1) count (λ n below. each n (omega arith)))

-- one line
line_spelled : (from to : ℕ) (line : List ℕ) (says : Says) (items : List Item) → IsOneLine line → HasForm (line ∷ []) says
    → ((more : List Says) (rest : List Item) → Builds to more rest → Builds from (says ∷ more) (items ++ rest)) → Spelled from (line ++ 10 ∷ []) to
line_spelled from to line says items one form builds = record {
  parts = record { lines = line ∷ []; says = says } ∷ [];
  each = (form, tt);
  whole = λ more. ap lines_of (append_assoc line (10 ∷ []) more) ∙ lines_next line more one;
  items = items;
  builds = builds;
}

-- a section begins
pub opens : (depth : ℕ) (before name : List ℕ) → depth < 256 → AreBlanks before → IsName name → IsOneLine before → Spelled depth ((before ++ (name ++ (32 ∷ 123 ∷ []))) ++ 10 ∷ []) (suc depth)
unfolding is_blank
opens depth before name within blanks is_name before_line =
    let line : List ℕ = before ++ (name ++ (32 ∷ 123 ∷ [])) in
    line_spelled depth (suc depth) line (Entry name Section) (record { depth = depth; name = name; value = Section } ∷ [])
    (line_join before (name ++ (32 ∷ 123 ∷ [])) before_line (line_join name (32 ∷ 123 ∷ []) (name_line name is_name.each) refl))
    (line, refl, record { before = before; between = 32 ∷ []; after = []; blanks = blanks; is_name = is_name; blanks_between = refl; blanks_after = refl; form = refl })
    (λ more rest built. (rest, refl, within, built))

-- a section ends
pub closes : (depth : ℕ) (before : List ℕ) → AreBlanks before → IsOneLine before → Spelled (suc depth) ((before ++ 125 ∷ []) ++ 10 ∷ []) depth
unfolding is_blank
closes depth before blanks before_line =
    let line : List ℕ = before ++ 125 ∷ [] in
    line_spelled (suc depth) depth line End [] (line_join before (125 ∷ []) before_line refl)
    (line, refl, record { before = before; after = []; blanks = blanks; blanks_after = refl; form = refl })
    (λ more rest built. built)

-- a line says something of a name after one space
gives_after : (before name said line : List ℕ) → AreBlanks before → IsName name → line ≡ before ++ (name ++ (32 ∷ said)) → GivesParameter line name said
unfolding is_blank
gives_after before name said line blanks is_name form =
    record { before = before; between = 32 ∷ []; blanks = blanks; is_name = is_name; blanks_between = refl; some_between = λ none. absurd (cc none); form = form }

-- a parameter with a bare value
pub bare : (depth : ℕ) (before name value : List ℕ) → AreBlanks before → IsName name → IsBare value
    → IsOneLine before → IsOneLine value → Spelled depth ((before ++ (name ++ (32 ∷ value))) ++ 10 ∷ []) depth
unfolding is_blank
bare depth before name value blanks is_name is_bare before_line value_line =
    let line : List ℕ = before ++ (name ++ (32 ∷ value)) in
    line_spelled depth depth line (Entry name (Bare value)) (record { depth = depth; name = name; value = Bare value } ∷ [])
    (line_join before (name ++ (32 ∷ value)) before_line (line_join name (32 ∷ value) (name_line name is_name.each) value_line)) (
      line,
      refl,
      inr (record {
        after = [];
        blanks_after = refl;
        is_bare = is_bare;
        gives = gives_after before name (value ++ []) line blanks is_name (ap (λ said. before ++ (name ++ (32 ∷ said))) (sym (append-nil value)));
      }),
    )
    (λ more rest built. (rest, refl, built))

-- ---- quoted values

-- bytes that stand for themselves in a string: neither a quote, nor a backslash, nor a newline
abbrev pub is_word_byte : ℕ → Bool
is_word_byte byte = is_plain byte && not (byte == 10)

abbrev pub AreWord : List ℕ → Type 0
AreWord bytes = list_all is_word_byte bytes ≡ true

pub word_line : (bytes : List ℕ) → AreWord bytes → IsOneLine bytes
word_line [] word = refl
word_line (byte ∷ bytes) word =
    let parts = and_parts (is_word_byte byte) (list_all is_word_byte bytes) word in
    let own = and_parts (is_plain byte) (not (byte == 10)) parts.0 in
    line_join (byte ∷ []) bytes (rw own.1 refl) (word_line bytes parts.1)

word_chars : (bytes : List ℕ) → AreWord bytes → list_all is_char (map Plain bytes) ≡ true
word_chars [] word = refl
word_chars (byte ∷ bytes) word =
    let parts = and_parts (is_word_byte byte) (list_all is_word_byte bytes) word in
    let own = and_parts (is_plain byte) (not (byte == 10)) parts.0 in
    let rest = word_chars bytes parts.1 in
    rw (own.0, rest) refl

plain_bytes : (bytes : List ℕ) → flat_map char_bytes (map Plain bytes) ≡ bytes
plain_bytes [] = refl
plain_bytes (byte ∷ bytes) = ap (λ rest. byte ∷ rest) (plain_bytes bytes)

plain_value : (bytes : List ℕ) → flat_map char_value (map Plain bytes) ≡ bytes
plain_value [] = refl
plain_value (byte ∷ bytes) = ap (λ rest. byte ∷ rest) (plain_value bytes)

-- a parameter with a quoted value
pub in_quotes : (depth : ℕ) (before name value : List ℕ) → AreBlanks before → IsName name → AreWord value
    → IsOneLine before → Spelled depth ((before ++ (name ++ (32 ∷ 34 ∷ (value ++ 34 ∷ [])))) ++ 10 ∷ []) depth
unfolding is_blank
in_quotes depth before name value blanks is_name word before_line =
    let strings : List ℕ = 34 ∷ (value ++ 34 ∷ []) in
    let line : List ℕ = before ++ (name ++ (32 ∷ strings)) in
    let same : strings ≡ quoted (map Plain value) = ap (λ bytes. 34 ∷ (bytes ++ 34 ∷ [])) (sym (plain_bytes value)) in
    line_spelled depth depth line (Entry name (Quoted value)) (record { depth = depth; name = name; value = Quoted value } ∷ [])
    (line_join before (name ++ (32 ∷ strings)) before_line
    (line_join name (32 ∷ strings) (name_line name is_name.each)
    (line_join (32 ∷ 34 ∷ []) (value ++ 34 ∷ []) refl
    (line_join value (34 ∷ []) (word_line value word) refl))))
    (record {
      line = line;
      strings = strings;
      said = value;
      further = [];
      gives = gives_after before name strings line blanks is_name refl;
      are_strings = record {
        quotes = record { chars = map Plain value; after = [] } ∷ [];
        nonempty = λ none. absurd (cc none);
        each = (record { chars = word_chars value word; after = refl }, tt);
        form = same ∙ sym (append-nil (quoted (map Plain value) ++ []) ∙ append-nil (quoted (map Plain value)));
        joined = sym (append-nil (flat_map char_value (map Plain value)) ∙ plain_value value);
      };
      each = tt;
      form = refl;
      joined = sym (append-nil value);
    })
    (λ more rest built. (rest, refl, built))

-- a text that leaves no section open stands for a tree
pub stands : {bytes : List ℕ} → Spelled 0 bytes 0 → IsMdl bytes
unfolding is_blank
stands {bytes} spelled =
    let last : Part = record { lines = [] ∷ []; says = Nothing } in
    let built = spelled.builds (Nothing ∷ []) [] (refl, refl) in (
      record { items = spelled.items ++ [] },
      record {
        parts = spelled.parts ++ last ∷ [];
        each = each_append (λ part. HasForm part.lines part.says) spelled.parts (last ∷ []) spelled.each (([], refl, inl refl), tt);
        whole = ap lines_of (sym (append-nil bytes)) ∙ spelled.whole [] ∙ sym (flat_map-append (λ (part : Part). part.lines) spelled.parts (last ∷ []));
        builds = subst (λ said. Builds 0 said (spelled.items ++ [])) (sym (flat_map-append (λ (part : Part). part.says ∷ []) spelled.parts (last ∷ []))) built;
      },
    )
