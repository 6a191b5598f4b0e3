-- What is known at a place of a line that has been reached token by token.
use Rattle.std.proofs.Common.{◌≡◌, ℕ, ◌+◌, List, [], ◌∷◌, ◌++◌, length, sym, ap, ◌∙◌, subst, arith}
use Rattle.std.proofs.lemmas.List.{append-nil, append_assoc}
use Rattle.traces.specs.declared.entry.Instruction.{Instruction}
use Rattle.text.specs.declared.statement.Fields.{Fields}
use Rattle.text.specs.declared.fault.Cause.TheVariants.{Misfit}
use Rattle.text.specs.Tokens.{At, token, width, skipped, next_token, past}
use Rattle.text.specs.Grammar.{Begins, States, denoted, Tok, number}
use Rattle.text.specs.Faults.{Viable, Leads, LineFault, misfit}
use Rattle.text.proofs.Longest.{begins_token}
use Rattle.text.proofs.Columns.{begins_length, skipped_column}
use Rattle.text.proofs.Leading.{leads_none, leads_more}
use Rattle.text.proofs.Likes.{Like, numbers, ending, like_itself}
use Rattle.text.proofs.Wants.{Want, Small, Follows, completed}

-- the place a of the line bs, its n-th, was reached by tokens of the format, and w is wanted there
pub record Reached (bs : List ℕ) (n : ℕ) (w : Want) (f : Fields) (a : At) : Type 0 where
  -- the tokens so far, and the digits of the address
  pub before : List Tok
  pub written : List ℕ
  pub small : Small written
  pub address_is : f.address.number ≡ denoted 0 written
  pub line_is : a.line ≡ n
  pub column_is : a.column + length a.rest ≡ length bs + 1
  pub leads : (ts : List Tok) (end : List ℕ) → Leads a.rest ts end → Leads bs (before ++ ts) end
  -- what is wanted makes a line
  pub onward : (ts : List Tok) → Follows w written ts → (i : Instruction) × States (before ++ ts) i
  -- and of the lines that go on with a token like the next one, there are no others
  pub only : (ts : List Tok) (i : Instruction) → Like (next_token a) ts → States (before ++ ts) i → Follows w written ts

module _ {bs : List ℕ} {n : ℕ} {w : Want} {f : Fields} {a : At} (r : Reached bs n w f a) where
  -- the tokens so far begin some line
  pub viable : Viable r.before
  viable = let c = completed w r.written r.small in (c.0, r.onward c.0 c.1)

  -- the tokens so far, and behind them the next token
  pub leads_here : Leads bs r.before (skipped a).rest
  leads_here = subst (λ l. Leads bs l (skipped a).rest) (append-nil r.before) (r.leads [] (skipped a).rest (leads_none a.rest))

  -- the column of the next token
  pub column_here : (skipped a).column + length (skipped a).rest ≡ length bs + 1
  column_here = skipped_column a ∙ r.column_is

  -- a line that begins with one more token
  pub one_more : (t : Tok) (ts : List Tok) (i : Instruction) → States (r.before ++ t ∷ ts) i → Viable (r.before ++ t ∷ [])
  one_more t ts i s = (ts, (i, subst (λ l. States l i) (sym (append_assoc r.before (t ∷ []) ts)) s))

  -- a token like the next one is wanted, where a line goes on with it
  pub one_wanted : (t : Tok) → ((ts : List Tok) → Like (next_token a) (t ∷ ts)) → Viable (r.before ++ t ∷ []) → (ts : List Tok) × Follows w r.written (t ∷ ts)
  one_wanted t l v = (v.0, r.only (t ∷ v.0) v.1.0 (l v.0) (subst (λ k. States k v.1.0) (append_assoc r.before (t ∷ []) v.0) v.1.1))

  -- where nothing like the next token is wanted, it does not fit
  pub misfits : ((ts : List Tok) → Like (next_token a) ts → Follows w r.written ts → ⊥) → LineFault bs Misfit (skipped a).column
  misfits none = misfit r.before (skipped a).rest (skipped a).column leads_here column_here viable (record {
    early = λ e i s.
        let l : Like (next_token a) [] = subst (λ k. Like (token k) []) (sym e) ending in
        none [] l (r.only [] i l (subst (λ k. States k i) (sym (append-nil r.before)) s));
    stray = λ t more b v.
        let l : (ts : List Tok) → Like (next_token a) (t ∷ ts) = λ ts. subst (λ u. Like u (t ∷ ts)) (sym (begins_token (skipped a).rest t more b).0) (like_itself b.spells ts) in
        let h = one_wanted t l v in none (t ∷ h.0) (l h.0) h.1;
    no_number = λ ds more b k.
        let l : (ts : List Tok) → Like (next_token a) (number k.0 ∷ ts) = λ ts. subst (λ u. Like u (number k.0 ∷ ts)) (sym (begins_token (skipped a).rest (number ds) more b).0) numbers in
        let h = one_wanted (number k.0) l k.1 in none (number k.0 ∷ h.0) (l h.0) h.1;
  })

  -- past a token, where what was wanted is that token and then v
  pub passed : (t : Tok) → next_token a ≡ t → Begins (skipped a).rest t (past a).rest → (v : Want) (g : Fields) (ad : List ℕ) → Small ad → g.address.number ≡ denoted 0 ad →
      ((ts : List Tok) → Follows v ad ts → Follows w r.written (t ∷ ts)) → ((ts : List Tok) → Follows w r.written (t ∷ ts) → Follows v ad ts) → Reached bs n v g (past a)
  passed t e b v g ad l same out back = record {
    before = r.before ++ t ∷ [];
    written = ad;
    small = l;
    address_is = same;
    line_is = r.line_is;
    column_is = omega (arith, column_here, begins_length (skipped a).rest t (past a).rest b, ap width e);
    leads = λ ts end h. subst (λ k. Leads bs k end) (sym (append_assoc r.before (t ∷ []) ts)) (r.leads (t ∷ ts) end (leads_more a.rest t ts end b h));
    onward = λ ts h.
        let s = r.onward (t ∷ ts) (out ts h) in
        (s.0, subst (λ k. States k s.0) (sym (append_assoc r.before (t ∷ []) ts)) s.1);
    only = λ ts i k s.
        back ts (r.only (t ∷ ts) i (subst (λ u. Like u (t ∷ ts)) (sym e) (like_itself b.spells ts)) (subst (λ l. States l i) (append_assoc r.before (t ∷ []) ts) s));
  }
