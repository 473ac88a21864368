-- What each lexeme adds to an item.
use Rattle.std.proofs.Common.{◌≡◌, ℕ, ◌<◌, true, false, cond, List, [], ◌∷◌, ◌++◌, length, Some, None, ⊎_elim, refl, sym, ◌∙◌, ap, subst, codes, arith, append_assoc, append-nil, length-append}
use Rattle.std.proofs.Common.{bytes_eq}
use Rattle.std.specs.List.{AllZip, flat_map}
use Rattle.std.proofs.lemmas.Grind.{flat_map-append}
use Rattle.vl_ast.specs.Instances.{BodyPart, OfItem, OfInstance, instance_parts, item_parts, part_tokens}
use Rattle.vl_ast.specs.declared.modules.ModItem.{ModItem}
use Rattle.vl_ast.specs.declared.modules.ModItem.TheVariants.{Assign, Always}
use Rattle.vl_ast.specs.Spelling.{joined}
use Rattle.vl_ast.specs.Tokens.{Token, Key, Sign, Identifier, IsWritten}
use Rattle.vl_names.specs.Identifiers.{is_identifier}
use Rattle.vl_ast.specs.Grammar.{comma, expr_tokens, condition_tokens, IsCondition, IsItemText}
use Rattle.vl_read.specs.declared.scan.Kind.{Kind}
use Rattle.vl_read.specs.declared.places.Frame.{Frame}
use Rattle.vl_read.specs.inner.Places.{Spot, Clocked, Goal, Place, Parser}
use Rattle.vl_read.specs.inner.Places.Spot.{Operand}
use Rattle.vl_read.specs.inner.Places.Goal.{Assigned, Condition, Next}
use Rattle.vl_read.specs.inner.Places.NetKind.{OfItem}
use Rattle.vl_read.specs.declared.places.NetSpot.TheVariants.{Signed}
use Rattle.vl_read.specs.inner.Places.Place.{Net, Items, AssignName, Head, ClockedName, Again, NextSign, Expression, End}
use Rattle.vl_read.specs.declared.places.Draft.{Draft}
use Rattle.vl_read.specs.declared.places.HeadSpot.{HeadSpot}
use Rattle.vl_read.specs.declared.places.HeadSpot.TheVariants.{Event, OpenEvent, Posedge, Clock, CloseEvent, Begin, Test, OpenTest, Reset, CloseTest}
use Rattle.vl_read.specs.inner.Plain.{head_token, head_word, after_head, goal_step, item_step, step_at}
use Rattle.vl_read.specs.inner.LexemeSteps.{goes}
use Rattle.vl_read.proofs.KindSound.{IsOfKind}
use Rattle.vl_read.proofs.ModuleText.{Given, head_before, clocked_tokens, goal_tokens, IsGoal, ExpressionAt, IsBegunItem, opened_tokens, BodyParts, InBody, InItem, ItemAt, Has}
use Rattle.vl_read.proofs.SoundFrames.{expected, either_word, grow, Goes}
use Rattle.vl_read.proofs.SoundSpots.{Ended, spot_sound}
use Rattle.vl_read.proofs.SoundNets.{Onward, onward_to, onward_sign, onward_key, grown_body, grow_body, grow_item, zip_push}

-- one more item among the parts

pub items_push : (parts : List BodyPart) (text : List Token) → item_parts (parts ++ OfItem text ∷ []) ≡ item_parts parts ++ text ∷ []
items_push [] text = refl
items_push (OfItem t ∷ parts) text = ap (λ ts. t ∷ ts) (items_push parts text)
items_push (OfInstance t ∷ parts) text = items_push parts text

pub no_instance_pushed : (parts : List BodyPart) (text : List Token) → instance_parts (parts ++ OfItem text ∷ []) ≡ instance_parts parts
no_instance_pushed [] text = refl
no_instance_pushed (OfItem t ∷ parts) text = no_instance_pushed parts text
no_instance_pushed (OfInstance t ∷ parts) text = ap (λ ts. t ∷ ts) (no_instance_pushed parts text)

pub last_part : (parts : List BodyPart) (part : BodyPart) → flat_map part_tokens parts ++ part_tokens part ≡ flat_map part_tokens (parts ++ part ∷ []) ++ []
last_part parts part =
    ap (λ t. flat_map part_tokens parts ++ t) (sym (append-nil (part_tokens part))) ∙ sym (flat_map-append part_tokens parts (part ∷ []))
    ∙ sym (append-nil (flat_map part_tokens (parts ++ part ∷ [])))

-- an item is read with its last token
pub item_read : (given : Given) (draft : Draft) (item : ModItem) (own text : List Token) (token : Token) → InItem given draft own text → IsItemText item (own ++ token ∷ []) →
    Has given (record draft { items = draft.items ++ item ∷ [] }) Items (text ++ token ∷ [])
item_read given draft item own text token at is =
    let whole : List Token = own ++ token ∷ [] in
    let parts : BodyParts given draft = at.body.parts in
    let grown : text ++ token ∷ [] ≡ opened_tokens draft ++ (joined comma parts.ports ++ (Sign (codes ")") ∷ Sign (codes ";") ∷ (flat_map part_tokens parts.parts ++ whole))) =
    grown_body given draft own text token at.body in
    record {
      parts = record {
        ports = parts.ports;
        parts = parts.parts ++ OfItem whole ∷ [];
        has_port = parts.has_port;
        has_link = parts.has_link;
        each_port = parts.each_port;
        each_item = subst (λ texts. AllZip IsItemText (draft.items ++ item ∷ []) texts)
            (sym (items_push parts.parts whole))
            (zip_push IsItemText draft.items (item_parts parts.parts) item whole parts.each_item is);
        each_instance = no_instance_pushed parts.parts whole ∙ parts.each_instance;
        kept = parts.kept;
        room = omega (arith, at.room, length-append draft.items (item ∷ []));
      };
      is = grown ∙ ap (λ t. opened_tokens draft ++ (joined comma parts.ports ++ (Sign (codes ")") ∷ Sign (codes ";") ∷ t))) (last_part parts.parts (OfItem whole));
    }

-- one more token of the item
pub more_item : (given : Given) (draft : Draft) (own text : List Token) (token : Token) (place : Place)
    → InItem given draft own text → IsBegunItem place (own ++ token ∷ [])
    → ItemAt given draft place (text ++ token ∷ [])
more_item given draft own text token place around is = record { own = own ++ token ∷ []; around = grow_item given draft own text token around; is = is }

-- the first word of an item

first_word : (given : Given) (draft : Draft) (text : List Token) (token : Token) → InBody given draft [] text → length draft.items < given.most → InItem given draft (token ∷ []) (text ++ token ∷ [])
first_word given draft text token body room = record { body = grow_body given draft [] text token body; room = room }

pub item_sound : (given : Given) (draft : Draft) (lexeme : List ℕ) (text : List Token) (q : Parser)
    → InBody given draft [] text → length draft.items < given.most → item_step draft lexeme ≡ Some q
    → Onward given text lexeme q
unfolding item_step
item_sound given draft lexeme text q body room =
    either_word lexeme (codes "wire") _ _ q
    (λ h e. onward_to given text lexeme q draft (Net (OfItem false) Signed) (Key (codes "wire")) h
    (record {
      own = Key (codes "wire") ∷ [];
      around =
          first_word given draft text (Key (codes "wire")) body room;
      is = refl;
    }) e)
    (either_word lexeme (codes "reg") _ _ q
    (λ h e. onward_to given text lexeme q draft (Net (OfItem true) Signed) (Key (codes "reg")) h
    (record {
      own = Key (codes "reg") ∷ [];
      around =
          first_word given draft text (Key (codes "reg")) body room;
      is = refl;
    }) e)
    (either_word lexeme (codes "assign") _ _ q
    (λ h e. onward_to given text lexeme q draft AssignName (Key (codes "assign")) h
    (record {
      own = Key (codes "assign") ∷ [];
      around =
          first_word given draft text (Key (codes "assign")) body room;
      is = refl;
    }) e)
    (onward_key given text lexeme q draft (Head Event) (codes "always")
    (record { own = Key (codes "always") ∷ []; around = first_word given draft text (Key (codes "always")) body room; is = refl }))))

-- the words of an item with a clock

head_written : (at : HeadSpot) (lexeme : List ℕ) → lexeme ≡ head_word at → IsWritten (head_token at) lexeme
head_written Event lexeme e = e
head_written _ lexeme e = e

head_more : (given : Given) (draft : Draft) (at : HeadSpot) (own text : List Token) → InItem given draft own text → own ≡ head_before at → Has given draft (after_head at) (text ++ head_token at ∷ [])
head_more given draft Event own text around is = more_item given draft own text (Sign (codes "@")) (Head OpenEvent) around (ap (λ t. t ++ Sign (codes "@") ∷ []) is)
head_more given draft OpenEvent own text around is = more_item given draft own text (Sign (codes "(")) (Head Posedge) around (ap (λ t. t ++ Sign (codes "(") ∷ []) is)
head_more given draft Posedge own text around is = more_item given draft own text (Key (codes "posedge")) (Head Clock) around (ap (λ t. t ++ Key (codes "posedge") ∷ []) is)
head_more given draft Clock own text around is = more_item given draft own text (Key (codes "clk")) (Head CloseEvent) around (ap (λ t. t ++ Key (codes "clk") ∷ []) is)
head_more given draft CloseEvent own text around is = more_item given draft own text (Sign (codes ")")) (Head Begin) around (ap (λ t. t ++ Sign (codes ")") ∷ []) is)
head_more given draft Begin own text around is = more_item given draft own text (Key (codes "begin")) (Head Test) around (ap (λ t. t ++ Key (codes "begin") ∷ []) is)
head_more given draft Test own text around is = more_item given draft own text (Key (codes "if")) (Head OpenTest) around (ap (λ t. t ++ Key (codes "if") ∷ []) is)
head_more given draft OpenTest own text around is = more_item given draft own text (Sign (codes "(")) (Head Reset) around (ap (λ t. t ++ Sign (codes "(") ∷ []) is)
head_more given draft Reset own text around is = more_item given draft own text (Key (codes "reset")) (Head CloseTest) around (ap (λ t. t ++ Key (codes "reset") ∷ []) is)
head_more given draft CloseTest own text around is = more_item given draft own text (Sign (codes ")")) ClockedName around (ap (λ t. t ++ Sign (codes ")") ∷ []) is)

pub head_sound : (given : Given) (draft : Draft) (at : HeadSpot) (lexeme : List ℕ) (text : List Token) (q : Parser) → ItemAt given draft (Head at) text →
    cond (bytes_eq lexeme (head_word at)) (goes draft (after_head at)) None ≡ Some q → Onward given text lexeme q
head_sound given draft at lexeme text q item e =
    let r = expected lexeme (head_word at) _ q e in
    onward_to given text lexeme q draft (after_head at) (head_token at) (head_written at lexeme r.0) (head_more given draft at item.own text item.around item.is) r.1

-- the same name again
pub again_sound : (given : Given) (draft : Draft) (clocked : Clocked) (lexeme : List ℕ) (own text : List Token) (q : Parser) → InItem given draft own text → IsCondition clocked.condition →
    own ≡ clocked_tokens clocked.name clocked.first ++ condition_tokens clocked.condition
    → is_identifier lexeme ≡ true → cond (bytes_eq lexeme clocked.name) (goes draft (NextSign clocked)) None
    ≡ Some q → Onward given text lexeme q
again_sound given draft clocked lexeme own text q around condition is named e =
    let r = expected lexeme clocked.name _ q e in
    onward_to given text lexeme q draft (NextSign clocked) (Identifier clocked.name) (r.0, subst (λ n. is_identifier n ≡ true) r.0 named)
    (more_item given draft own text (Identifier clocked.name) (NextSign clocked) around
    (condition, grow (clocked_tokens clocked.name clocked.first) (condition_tokens clocked.condition) _ own (Identifier clocked.name) is refl)) r.1

-- expressions

pub expression_starts : (goal : Goal) (text : List Token) → IsGoal goal → text ≡ goal_tokens goal → ExpressionAt goal [] Operand text
expression_starts goal text goal_is is =
    record { own = []; is = is ∙ sym (append-nil (goal_tokens goal)); goal_is = goal_is; begun = record { is = refl; deep = omega arith; filled = refl; room = tt } }

goal_sound : (given : Given) (draft : Draft) (goal : Goal) (lexeme : List ℕ) (own expression text : List Token)
    (q : Parser) → InItem given draft own text → own ≡ goal_tokens goal ++ expression → IsGoal goal →
    Ended draft goal expression lexeme q → Onward given text lexeme q
unfolding goal_step
goal_sound given draft (Assigned name) lexeme own expression text q around is goal_is ended =
    onward_sign given text lexeme q (record draft { items = draft.items ++ Assign name ended.value ∷ [] }) Items (codes ";")
    (item_read given draft (Assign name ended.value) own text (Sign (codes ";")) around
    (ended.good, grow (goal_tokens (Assigned name)) (expr_tokens ended.value) _ own (Sign (codes ";")) (is ∙ ap (λ t. goal_tokens (Assigned name) ++ t) ended.is) refl)) ended.goes
goal_sound given draft (Condition name first) lexeme own expression text q around is goal_is ended =
    onward_sign given text lexeme q draft (Again (record { name = name; first = first; condition = Some ended.value })) (codes ")")
    (more_item given draft own text (Sign (codes ")")) (Again (record { name = name; first = first; condition = Some ended.value })) around
    (ended.good, grow (goal_tokens (Condition name first)) (expr_tokens ended.value) _ own (Sign (codes ")")) (is ∙ ap (λ t. goal_tokens (Condition name first) ++ t) ended.is) refl)) ended.goes
goal_sound given draft (Next clocked) lexeme own expression text q around is goal_is ended =
    onward_sign given text lexeme q draft (End (Always clocked.name clocked.first clocked.condition ended.value)) (codes ";")
    (more_item given draft own text (Sign (codes ";")) (End (Always clocked.name clocked.first clocked.condition ended.value)) around (
      goal_is,
      ended.good,
      ap (λ t. (t ++ Sign (codes ";") ∷ []) ++ Key (codes "end") ∷ []) (is ∙ ap (λ t. goal_tokens (Next clocked) ++ t) ended.is)
          ∙ all (clocked_tokens clocked.name clocked.first) (condition_tokens clocked.condition)
          (expr_tokens ended.value) (Identifier clocked.name) (Sign (codes "<=")) (Sign (codes ";"))
          (Key (codes "end")),
    )) ended.goes
  where
    all : (a b c : List Token) (s t u v : Token) → ((((a ++ (b ++ s ∷ t ∷ [])) ++ c) ++ u ∷ []) ++ v ∷ []) ≡ a ++ (b ++ s ∷ t ∷ (c ++ u ∷ v ∷ []))
    all a b c s t u v = simp append_assoc

pub expression_sound : (given : Given) (draft : Draft) (goal : Goal) (frames : List Frame) (spot : Spot)
    (kind : Kind) (lexeme : List ℕ) (text : List Token) (q : Parser)
    → ItemAt given draft (Expression goal frames spot) text → IsOfKind kind lexeme →
    step_at draft (Expression goal frames spot) kind lexeme ≡ Some q → Onward given text lexeme q
unfolding step_at
expression_sound given draft goal frames spot kind lexeme text q item is e =
    let at : ExpressionAt goal frames spot item.own = item.is in
    ⊎_elim (λ more. on_in at more) (λ ended. goal_sound given draft goal lexeme item.own at.own text q item.around at.is at.goal_is ended)
    (spot_sound draft goal frames spot kind lexeme at.own q at.begun is e)
  where
    on_in : (at : ExpressionAt goal frames spot item.own) → Goes draft goal at.own lexeme q → Onward given text lexeme q
    on_in at more =
        onward_to given text lexeme q draft (Expression goal more.frames more.spot) more.token more.written
        (more_item given draft item.own text more.token (Expression goal more.frames more.spot) item.around
        (record { own = at.own ++ more.token ∷ []; is = grow (goal_tokens goal) at.own _ item.own more.token at.is refl; goal_is = at.goal_is; begun = more.begun })) (ap Some more.same)
