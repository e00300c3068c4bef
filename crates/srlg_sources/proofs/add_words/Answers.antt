use Rattle.std.proofs.Common.{rules, arith, ◌≡◌, ◌<◌, ◌∙◌, ℕ, List, [], ◌∷◌, length, length-set, map, sym, ap}
use Rattle.std.specs.Slice.Iter.{chunks_exact_rest}
use Rattle.linkstate.specs.Lists.{put}
use Rattle.linkstate.specs.Bytes.{number, bytes_at, words}
use Rattle.octets.proofs.Laws.{put-nil}
use Rattle.srlg.proofs.Laws.{length-words, words-next, words-end, put-next}
use Rattle.srlg_sources.specs.Sources.{key_of}
use Rattle.srlg_sources.proofs.Marks.{small-cons, small-none}
use Rattle.srlg_sources.proofs.add_words.Goals as goal
use Rattle.srlg_sources.proofs.add_words.Goals.{In-Some, In-None}

-- The next number, and those that are left then.
next : (c : In-Some) → words (chunks_exact_rest c.loop-word.word-iterator) ≡ number (bytes_at c.in-Some.word.now 0 4) ∷ words (chunks_exact_rest c.next.new.self)
next c = let h = c.in-Some.ensures.steps in
    ap words h.1.0 ∙ words-next c.in-Some.word.now (chunks_exact_rest c.next.new.self) (h.1.1 ∙ c.loop-word.invariant.0)

room : (c : In-Some) → c.loop-word.place < length c.loop-word.keys
room c = omega (arith, c.requires.1, length-words c.args.s.now, c.loop-word.invariant.1, c.loop-word.invariant.2, ap length (next c))

none : (c : In-None) → words (chunks_exact_rest c.loop-word.word-iterator) ≡ []
none c = words-end (chunks_exact_rest c.loop-word.word-iterator) (omega (arith, c.in-None.ensures.steps.1.0, c.loop-word.invariant.0))

pub offset_bounds-keys-place : goal.offset_bounds-keys-place
offset_bounds-keys-place c = let r = room (goal.at.offset_bounds-keys-place c).In-Some in search (rules, r)

pub bounds-keys-place : goal.bounds-keys-place
bounds-keys-place c = room (goal.at.bounds-keys-place c).In-Some

pub overflow_add-place : goal.overflow_add-place
overflow_add-place c = let r = room (goal.at.overflow_add-place c).In-Some in search (rules, r)

pub loop-word-preserved : goal.loop-word-preserved
unfolding key_of
loop-word-preserved c = let l = c.loop-word in
    let n = next (goal.at.loop-word-preserved c).In-Some in
    let ws = words (chunks_exact_rest c.next.new.self) in
    let key = key_of c.args.source in
    let v = c.read32.ensures in (
      c.in-Some.ensures.steps.0 ∙ l.invariant.0,
      simp length-set l.invariant.1,
      omega (arith, l.invariant.2, ap length n),
      rw (c.from.ensures, v.0, c.above-high.ensures)
          (put-next l.keys l.place _ (map key ws) (room (goal.at.loop-word-preserved c).In-Some) ∙ ap (put l.keys l.place) (sym (ap (map key) n)) ∙ l.invariant.3),
      λ small. l.invariant.4 (rw n (small-cons _ ws (omega (arith, v)) small)),
    )

pub returns : goal.returns
returns c = let l = c.loop-word in
    let e = none (goal.at.returns c).In-None in
    record {
      value = (omega (arith, l.invariant.2, ap length e), put-nil l.keys l.place ∙ ap (λ (ws : List ℕ). put l.keys l.place (map (key_of c.args.source) ws)) (sym e) ∙ l.invariant.3);
      small = l.invariant.4 (rw e small-none);
    }
