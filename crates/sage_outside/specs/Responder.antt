-- What a server of several answers.
use Rattle.std.specs.Prelude.{ℕ, ◌⊎◌, IsTrue, List}
use Rattle.sage_outside.specs.Link.{Data}
use Rattle.sage_outside.specs.Replies.{is_server_error, is_unavailable}

-- a reply over data: one that they give for the quantum, a 503 reply, or a 500 reply
abbrev pub AnswersOver : (Data → ℕ → List ℕ → List ℕ → Type 0) → Data → ℕ → List ℕ → List ℕ → Type 0
AnswersOver may_reply data_set quantum request reply =
    may_reply data_set quantum request reply ⊎ IsTrue (is_unavailable reply) ⊎ IsTrue (is_server_error reply)
