-- Two values with one text are equal, where they hold no float.
use Rattle.std.proofs.Common.{◌≡◌, pos, negsuc, suc, ◌+◌, ◌^◌, ◌<◌, List, [], ◌++◌, Option, Some, option_map, option_and_then, refl, sym, ap, ◌∙◌, arith}
use Rattle.std.specs.Prelude.{⊤}
use Rattle.std.proofs.lemmas.Option.{some_pair_parts}
use Rattle.json.specs.Token.{Token}
use Rattle.json.specs.Lex.{tokens}
use Rattle.json.specs.Json as json
use Rattle.json.specs.Tree as tree
use Rattle.json.proofs.Printed.Decimals.{IsNumber-decimal, IsNumber-signed_decimal}
use Rattle.json.proofs.Printed.Tokens.{tokens-print}
use Rattle.json.proofs.Printed.Trees.{value-json_tokens, ArePrintable-json_tokens}
use Rattle.serde_json.specs.Data.{Num, unsigned, negative, float, Data, null, boolean, number, string, array, object, Items, no_items, item, Members, no_members, member, put, depth, items_depth, members_depth}
use Rattle.serde_json.specs.Read.{number_of, of_json, of_items, of_members}
use Rattle.serde_json.specs.Written.{number_text, outline, items_outline, members_outline, compact_text}
use Rattle.serde_json.proofs.Numbers.{number_of-decimal, number_of-negative}
use Rattle.serde_json.proofs.Texts.{print-outline}

-- an integer of 64 bits, as `Number` keeps it
abbrev pub IsKept : Num → Type 0
IsKept (unsigned n) = n < 2 ^ 64
IsKept (negative (pos n)) = ⊥
IsKept (negative (negsuc n)) = n < 2 ^ 63
IsKept (float x) = ⊥

abbrev pub put_all : Members → Members → Members
put_all no_members found = found
put_all (member k d ms) found = put_all ms (put k d found)

-- no float, integers of 64 bits, and an object's members in order, each once
abbrev mutual
  pub IsPlain : Data → Type 0
  IsPlain null = ⊤
  IsPlain (boolean b) = ⊤
  IsPlain (number n) = IsKept n
  IsPlain (string s) = ⊤
  IsPlain (array ds) = ArePlain ds
  IsPlain (object ms) = AllPlain ms × (put_all ms no_members ≡ ms)

  pub ArePlain : Items → Type 0
  ArePlain no_items = ⊤
  ArePlain (item d ds) = IsPlain d × ArePlain ds

  pub AllPlain : Members → Type 0
  AllPlain no_members = ⊤
  AllPlain (member k d ms) = IsPlain d × AllPlain ms

number_reads : (n : Num) → IsKept n → number_of (number_text n) ≡ Some n
number_reads (unsigned n) h = number_of-decimal n h
number_reads (negative (pos n)) h = absurd h
number_reads (negative (negsuc n)) h = number_of-negative n h
number_reads (float x) h = absurd h

mutual
  of_json-outline : (d : Data) → IsPlain d → of_json (outline d) ≡ Some d
  of_json-outline null h = refl
  of_json-outline (boolean b) h = refl
  of_json-outline (number n) h = ap (option_map number) (number_reads n h)
  of_json-outline (string s) h = refl
  of_json-outline (array ds) h = ap (option_map array) (of_items-outline ds h)
  of_json-outline (object ms) h = ap (option_map object) (of_members-outline ms no_members h.0 ∙ ap Some h.1)

  of_items-outline : (ds : Items) → ArePlain ds → of_items (items_outline ds) ≡ Some ds
  of_items-outline no_items h = refl
  of_items-outline (item d ds) h =
      ap (option_and_then (λ e. option_map (item e) (of_items (items_outline ds)))) (of_json-outline d h.0) ∙ ap (option_map (item d)) (of_items-outline ds h.1)

  of_members-outline : (ms found : Members) → AllPlain ms → of_members (members_outline ms) found ≡ Some (put_all ms found)
  of_members-outline no_members found h = refl
  of_members-outline (member k d ms) found h =
      ap (option_and_then (λ e. of_members (members_outline ms) (put k e found))) (of_json-outline d h.0) ∙ of_members-outline ms (put k d found) h.1

mutual
  HasNumbers-outline : (d : Data) → IsPlain d → tree.HasNumbers (outline d)
  HasNumbers-outline null h = tt
  HasNumbers-outline (boolean b) h = tt
  HasNumbers-outline (number (unsigned n)) h = IsNumber-decimal n h
  HasNumbers-outline (number (negative (pos n))) h = absurd h
  HasNumbers-outline (number (negative (negsuc n))) h = IsNumber-signed_decimal (negsuc n) h
  HasNumbers-outline (number (float x)) h = absurd h
  HasNumbers-outline (string s) h = tt
  HasNumbers-outline (array ds) h = ItemsHaveNumbers-outline ds h
  HasNumbers-outline (object ms) h = MembersHaveNumbers-outline ms h.0

  ItemsHaveNumbers-outline : (ds : Items) → ArePlain ds → tree.ItemsHaveNumbers (items_outline ds)
  ItemsHaveNumbers-outline no_items h = tt
  ItemsHaveNumbers-outline (item d ds) h = (HasNumbers-outline d h.0, ItemsHaveNumbers-outline ds h.1)

  MembersHaveNumbers-outline : (ms : Members) → AllPlain ms → tree.MembersHaveNumbers (members_outline ms)
  MembersHaveNumbers-outline no_members h = tt
  MembersHaveNumbers-outline (member k d ms) h = (HasNumbers-outline d h.0, MembersHaveNumbers-outline ms h.1)

mutual
  depth-outline : (d : Data) → tree.depth (outline d) ≡ depth d
  depth-outline null = refl
  depth-outline (boolean b) = refl
  depth-outline (number n) = refl
  depth-outline (string s) = refl
  depth-outline (array ds) = ap suc (items_depth-outline ds)
  depth-outline (object ms) = ap suc (members_depth-outline ms)

  items_depth-outline : (ds : Items) → tree.items_depth (items_outline ds) ≡ items_depth ds
  items_depth-outline no_items = refl
  items_depth-outline (item d ds) = rw (depth-outline d, items_depth-outline ds) refl

  members_depth-outline : (ms : Members) → tree.members_depth (members_outline ms) ≡ members_depth ms
  members_depth-outline no_members = refl
  members_depth-outline (member k d ms) = rw (depth-outline d, members_depth-outline ms) refl

tokens-compact_text : (d : Data) → IsPlain d → tokens (compact_text d) ≡ tree.json_tokens (outline d)
tokens-compact_text d h = ap tokens (sym (print-outline d)) ∙ tokens-print (tree.json_tokens (outline d)) (ArePrintable-json_tokens (outline d) (HasNumbers-outline d h))

same_pair : (i j : json.Json) → ◌≡◌ {A = Option (json.Json × List Token)} (Some (i, [])) (Some (j, [])) → i ≡ j
same_pair i j e = (some_pair_parts i j [] [] e).0

-- The grammar reads to any depth that is asked of it, so this has no limit.
pub compact_text_one_to_one : (d e : Data) → IsPlain d → IsPlain e → compact_text d ≡ compact_text e → d ≡ e
compact_text_one_to_one d e h k same =
    let n = depth d + depth e in
    let flat : tree.json_tokens (outline d) ≡ tree.json_tokens (outline e) = sym (tokens-compact_text d h) ∙ ap tokens same ∙ tokens-compact_text e k in
    let left = value-json_tokens (outline d) n [] (omega (arith, depth-outline d)) in
    let right = value-json_tokens (outline e) n [] (omega (arith, depth-outline e)) in
    let trees = same_pair (outline d) (outline e) (sym left ∙ ap (λ ts. json.value n (ts ++ [])) flat ∙ right) in
    let both : Some d ≡ Some e = sym (of_json-outline d h) ∙ ap of_json trees ∙ of_json-outline e k in cc
