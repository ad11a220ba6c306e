-- For callers: what an answer tells of the word and of the memory, and what every call keeps.
use Rattle.std.proofs.Common.{◌≡◌, ℕ, suc, ◌<◌, ◌≤◌, List, [], ◌∷◌, ◌++◌, length, drop, set, sym, refl, ap, ◌∙◌, subst, inl, inr, append_assoc, append-nil, arith}
use Rattle.std.proofs.lemmas.List.{length_push, take-append-drop, drop_at, set_split}
use Rattle.strips.specs.declared.strip.Strip.{Strip}
use Rattle.strips.specs.Words.{In, AtMost}
use Rattle.strips.specs.Rule.{Call, Put, Take, Clear, Answer, Done, Taken, Refused, Rule, full, crowded, added, empty, removed, cleared}
use Rattle.strips.specs.Strips.{Obeys, memory_of, word_of}
use Rattle.strips.proofs.Calls.{word_length}
use Rattle.strips.proofs.Letters.{at_most_none, at_most_less, at_most_same, at_most_more, in_left}

module _ {A : Type 0} {capacity : ℕ} {w : List A} where
  pub put_word : {a : A} {v : List A} → Rule capacity w (Put a) Done v → v ≡ w ++ (a ∷ [])
  put_word (added room admitted) = refl

  pub put_room : {a : A} {v : List A} → Rule capacity w (Put a) Done v → length w < capacity
  put_room (added room admitted) = room

  pub take_word : {v : List A} {a : A} → Rule capacity w Take (Taken a) v → w ≡ v ++ (a ∷ [])
  take_word (removed e) = e

  pub clear_word : {v : List A} {answer : Answer A} → Rule capacity w Clear answer v → v ≡ []
  clear_word cleared = refl

  pub refused_word : {v : List A} {call : Call A} {n p : ℕ} → Rule capacity w call (Refused n p) v → v ≡ w
  refused_word (full over) = refl
  refused_word (crowded room not) = refl
  refused_word (empty e) = refl

  -- The limits hold from call to call.
  pub keeps_capacity : {v : List A} {call : Call A} {answer : Answer A} → Rule capacity w call answer v → length w ≤ capacity → length v ≤ capacity
  keeps_capacity (full over) h = h
  keeps_capacity (crowded room not) h = h
  keeps_capacity (added {a = a} room admitted) h = omega (arith, length_push w a)
  keeps_capacity (empty e) h = h
  keeps_capacity (removed {v = v} {a = a} e) h = omega (arith, ap length e, length_push v a)
  keeps_capacity cleared h = omega arith

  pub keeps_kinds : {v : List A} {call : Call A} {answer : Answer A} → Rule capacity w call answer v → AtMost 64 w → AtMost 64 v
  keeps_kinds (full over) h = h
  keeps_kinds (crowded room not) h = h
  keeps_kinds (added {a = a} room (inl here)) h = at_most_same 64 w a here h
  keeps_kinds (added {a = a} room (inr few)) h = at_most_more 63 w a few
  keeps_kinds (empty e) h = h
  keeps_kinds (removed {v = v} {a = a} e) h = at_most_less 64 v w (λ b k. subst (In b) (sym e) (in_left b v (a ∷ []) k)) h
  keeps_kinds cleared h = at_most_none 64

module _ {A : Type 0} (s t : Strip A) where
  -- What the memory holds: the word after the call, and behind it what was there.
  pub memory : {call : Call A} {answer : Answer A} → Obeys s call answer t → memory_of t ≡ word_of t ++ drop t.len (memory_of s)
  memory h = sym (take-append-drop t.len (memory_of t)) ∙ ap (λ x. word_of t ++ x) h.rest

  -- A put writes the place behind the word.
  pub put_memory : {a : A} → Obeys s (Put a) Done t → memory_of t ≡ set (memory_of s) s.len a
  put_memory {a} h =
      let word : word_of t ≡ word_of s ++ (a ∷ []) = put_word h.rule in
      let longer : t.len ≡ suc s.len = omega (arith, ap length word, word_length s, word_length t, length_push (word_of s) a) in
      let free : s.len < length (memory_of s) = omega (arith, put_room h.rule, word_length s) in
      memory h ∙ ap (λ n. word_of t ++ drop n (memory_of s)) longer ∙ ap (λ v. v ++ drop (suc s.len) (memory_of s)) word ∙ append_assoc (word_of s) (a ∷ []) (drop (suc s.len) (memory_of s))
      ∙ sym (set_split (memory_of s) s.len a free)

  -- A call that leaves a front part of the word writes nothing.
  front_memory : (call : Call A) (answer : Answer A) (v : List A) → word_of s ≡ word_of t ++ v → Obeys s call answer t → memory_of t ≡ memory_of s
  front_memory call answer v e h =
      let behind : List A = drop s.len (memory_of s) in
      let parts : memory_of s ≡ word_of t ++ (v ++ behind) = sym (take-append-drop s.len (memory_of s)) ∙ ap (λ x. x ++ behind) e ∙ append_assoc (word_of t) v behind in
      memory h ∙ ap (λ x. word_of t ++ x) (ap (drop t.len) parts ∙ drop_at (word_of t) (v ++ behind) t.len (word_length t)) ∙ sym parts

  pub take_memory : {a : A} → Obeys s Take (Taken a) t → memory_of t ≡ memory_of s
  take_memory {a} h = front_memory Take (Taken a) (a ∷ []) (take_word h.rule) h

  pub clear_memory : {answer : Answer A} → Obeys s Clear answer t → memory_of t ≡ memory_of s
  clear_memory {answer} h = front_memory Clear answer (word_of s) (ap (λ v. v ++ word_of s) (sym (clear_word h.rule))) h

  pub refused_memory : {call : Call A} {n p : ℕ} → Obeys s call (Refused n p) t → memory_of t ≡ memory_of s
  refused_memory {call} {n} {p} h = front_memory call (Refused n p) [] (sym (refused_word h.rule) ∙ sym (append-nil (word_of t))) h
