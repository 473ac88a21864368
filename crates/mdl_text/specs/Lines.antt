-- The forms that a line, or the lines of one parameter, may have (own).
use Prim.Native.Char.{code}
use Rattle.std.specs.Prelude.{◌≡◌, ◌≢◌, ℕ, List, [], ◌∷◌, ◌++◌, false}
use Rattle.std.specs.List.{flat_map, AllByRecursion}
use Rattle.mdl_text.specs.Bytes.{is_blank, AreBlanks, IsName, AreStrings, IsList, lines_of}

-- blanks, `#`, anything
pub record IsComment (line : List ℕ) : Type 0 where
  pub before : List ℕ
  pub text : List ℕ
  pub blanks : AreBlanks before
  pub form : line ≡ before ++ code "#" ∷ text

-- blanks, a name, blanks, `{`, blanks
pub record StartsSection (line name : List ℕ) : Type 0 where
  pub before : List ℕ
  pub between : List ℕ
  pub after : List ℕ
  pub blanks : AreBlanks before
  pub is_name : IsName name
  pub blanks_between : AreBlanks between
  pub blanks_after : AreBlanks after
  pub form : line ≡ before ++ (name ++ (between ++ code "{" ∷ after))

-- blanks, `}`, blanks
pub record EndsSection (line : List ℕ) : Type 0 where
  pub before : List ℕ
  pub after : List ℕ
  pub blanks : AreBlanks before
  pub blanks_after : AreBlanks after
  pub form : line ≡ before ++ code "}" ∷ after

-- blanks, a name, blanks: a parameter whose value is empty
pub record IsEmptyParameter (line name : List ℕ) : Type 0 where
  pub before : List ℕ
  pub after : List ℕ
  pub blanks : AreBlanks before
  pub is_name : IsName name
  pub blanks_after : AreBlanks after
  pub form : line ≡ before ++ (name ++ after)

-- blanks, a name, at least one blank, and what is said of its value
pub record GivesParameter (bytes name said : List ℕ) : Type 0 where
  pub before : List ℕ
  pub between : List ℕ
  pub blanks : AreBlanks before
  pub is_name : IsName name
  pub blanks_between : AreBlanks between
  pub some_between : between ≢ []
  pub form : bytes ≡ before ++ (name ++ (between ++ said))

-- begins with another byte than `"`, `[`, `{` and a blank, and doesn't end with a blank
pub record IsBare (value : List ℕ) : Type 0 where
  pub first : ℕ
  pub rest : List ℕ
  pub front : List ℕ
  pub last : ℕ
  pub begins : value ≡ first ∷ rest
  pub no_quote : first ≢ code "\""
  pub no_bracket : first ≢ code "["
  pub no_brace : first ≢ code "{"
  pub no_blank_first : is_blank first ≡ false
  pub ends : value ≡ front ++ last ∷ []
  pub no_blank_last : is_blank last ≡ false

-- a bare value goes to the end of the line, but for the blanks there
pub record IsBareParameter (line name value : List ℕ) : Type 0 where
  pub after : List ℕ
  pub blanks_after : AreBlanks after
  pub is_bare : IsBare value
  pub gives : GivesParameter line name (value ++ after)

-- further text: blanks, one or more quoted strings with blanks between and after
pub record IsFurtherText (line value : List ℕ) : Type 0 where
  pub before : List ℕ
  pub strings : List ℕ
  pub blanks : AreBlanks before
  pub are_strings : AreStrings strings value
  pub form : line ≡ before ++ strings

-- a line of further text, and what it says
pub record Further : Type 0 where
  pub line : List ℕ
  pub value : List ℕ

-- a line with quoted strings, and the lines of further text that follow it
pub record IsQuotedParameter (lines : List (List ℕ)) (name value : List ℕ) : Type 0 where
  pub line : List ℕ
  pub strings : List ℕ
  pub said : List ℕ
  pub further : List Further
  pub gives : GivesParameter line name strings
  pub are_strings : AreStrings strings said
  pub each : AllByRecursion (λ next. IsFurtherText next.line next.value) further
  pub form : lines ≡ line ∷ flat_map (λ next. next.line ∷ []) further
  pub joined : value ≡ said ++ flat_map (λ next. next.value) further

-- the lines of a parameter whose value is a list, which may go over several; blanks alone follow it
-- on its last line
pub record IsListParameter (lines : List (List ℕ)) (name value : List ℕ) : Type 0 where
  pub bytes : List ℕ
  pub after : List ℕ
  pub is_list : IsList value
  pub blanks_after : AreBlanks after
  pub gives : GivesParameter bytes name (value ++ after)
  pub form : lines ≡ lines_of bytes
