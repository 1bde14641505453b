-- The words of the input language.
use Rattle.std.specs.Prelude.{ℕ, List, [], ◌∷◌, ◌||◌, Bool, false, codes, if◌then◌else◌}
use Rattle.cp_model.specs.declared.sort.Sort.TheVariants.{Text as text_sort, Datum as datum_sort, Name as name_sort, Skey as skey_sort, Akey as akey_sort}
use Rattle.cp_model.specs.Same.{same_text}
use Rattle.cp_language.specs.declared.words.SortWord.{SortWord}
use Rattle.cp_language.specs.declared.words.SortWord.TheVariants.{Atoms as of_sort, Messages as of_messages, OutOfProfile as sort_out_of_profile, Unknown as no_sort}
use Rattle.cp_language.specs.declared.words.TermHead.{TermHead}
use Rattle.cp_language.specs.declared.words.TermHead.TheVariants.{Cat as cat, Enc as encrypt, Ltk as long_term_key, Pubk as public_key, Privk as private_key, Invk as inverse_key, OutOfProfile as operation_out_of_profile, Unknown as no_operation}
use Rattle.cp_language.specs.declared.words.EventHead.{EventHead}
use Rattle.cp_language.specs.declared.words.EventHead.TheVariants.{Send as sending, Recv as receiving, OutOfProfile as event_out_of_profile, Unknown as no_event}
use Rattle.cp_language.specs.declared.words.ItemHead.{ItemHead}
use Rattle.cp_language.specs.declared.words.ItemHead.TheVariants.{Role as role_item, Non as non_item, PenetratorNon as penetrator_non_item, Unique as unique_item, Strand as strand_item, Listener as listener_item, Precedes as precedes_item, Comment as comment_item, OutOfProfile as item_out_of_profile, Unknown as no_item}
use Rattle.cp_language.specs.declared.words.TopHead.{TopHead}
use Rattle.cp_language.specs.declared.words.TopHead.TheVariants.{Protocol as protocol_form, Problem as problem_form, Free as free_form, OutOfProfile as top_out_of_profile, Unknown as no_top}

-- The text is one of these.
abbrev pub is_one_of : List ℕ → List (List ℕ) → Bool
is_one_of t [] = false
is_one_of t (w ∷ ws) = same_text t w || is_one_of t ws

-- Heads that this program does not analyse, wherever a list is judged by its head.
abbrev pub heads_out_of_profile : List (List ℕ)
heads_out_of_profile = codes "defrule" ∷ codes "facts" ∷ codes "priority" ∷ codes "absent" ∷ codes "uniq-gen" ∷ codes "fn-of" ∷ codes "defgoal" ∷ codes "defmacro" ∷ []

-- Heads of state and channel events, as events or as items of a protocol, a role or a problem.
abbrev pub state_heads : List (List ℕ)
state_heads = codes "load" ∷ codes "stor" ∷ codes "init" ∷ codes "tran" ∷ codes "obsv" ∷ []

-- Operations in terms of other algebras.
abbrev pub other_operations : List (List ℕ)
other_operations = codes "exp" ∷ codes "gen" ∷ codes "mul" ∷ codes "rec" ∷ codes "one" ∷ codes "bltk" ∷ codes "hash" ∷ []

-- Sorts of other algebras and of state.
abbrev pub other_sorts : List (List ℕ)
other_sorts = codes "expt" ∷ codes "rndx" ∷ codes "base" ∷ codes "chan" ∷ codes "locn" ∷ codes "state" ∷ []

-- What a text is by a table of words: what the first row with this word says, or else the other.
abbrev pub by_word : {A : Type 0} → List (List ℕ × A) → A → List ℕ → A
by_word [] other t = other
by_word (row ∷ rows) other t = if same_text t row.0 then row.1 else by_word rows other t

abbrev pub sort_word : List ℕ → SortWord
sort_word t = by_word
    ((codes "text", of_sort text_sort) ∷ (codes "data", of_sort datum_sort) ∷ (codes "name", of_sort name_sort) ∷ (codes "skey", of_sort skey_sort) ∷ (codes "akey", of_sort akey_sort) ∷ (codes "mesg", of_messages) ∷ [])
    (if is_one_of t other_sorts then sort_out_of_profile else no_sort) t

abbrev pub term_head : List ℕ → TermHead
term_head t = by_word
    ((codes "cat", cat) ∷ (codes "enc", encrypt) ∷ (codes "ltk", long_term_key) ∷ (codes "pubk", public_key) ∷ (codes "privk", private_key) ∷ (codes "invk", inverse_key) ∷ [])
    (if is_one_of t heads_out_of_profile || is_one_of t other_operations then operation_out_of_profile else no_operation) t

abbrev pub event_head : List ℕ → EventHead
event_head t =
    if same_text t (codes "send") then sending else
    if same_text t (codes "recv") then receiving else
    if is_one_of t heads_out_of_profile || is_one_of t state_heads then event_out_of_profile else no_event

abbrev pub item_head : List ℕ → ItemHead
item_head t = by_word
    ((codes "defrole", role_item) ∷ (codes "non-orig", non_item) ∷ (codes "pen-non-orig", penetrator_non_item) ∷ (codes "uniq-orig", unique_item) ∷ (codes "defstrand", strand_item) ∷ (codes "deflistener", listener_item) ∷ (codes "precedes", precedes_item) ∷ (codes "comment", comment_item) ∷ [])
    (if is_one_of t heads_out_of_profile || is_one_of t state_heads then item_out_of_profile else no_item) t

abbrev pub top_head : List ℕ → TopHead
top_head t =
    if same_text t (codes "defprotocol") then protocol_form else
    if same_text t (codes "defskeleton") then problem_form else
    if same_text t (codes "herald") || same_text t (codes "comment") then free_form else
    if is_one_of t heads_out_of_profile then top_out_of_profile else no_top
