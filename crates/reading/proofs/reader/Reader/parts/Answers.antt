-- `reading::reader::Reader::parts` meets its contract: each part is read where the one before it ended; a part that stops the reading stops the whole.
use mathlib.Core.Path.{refl, sym, subst, ◌∙◌}
use Rattle.text.specs.Lexicon.{OPEN, CLOSE}
use Rattle.words.specs.Words.{W_minus}
use Rattle.reading.specs.Tree.{Term}
use Rattle.reading.specs.Reading.{expect, expect_word, expect_name, amount}
use Rattle.reading.proofs.Steps.{read_to, read_as, goes_on, halts, halted, came_to}
use Rattle.reading.proofs.Atoms.{Small, capped_small, same_amount}
use Rattle.reading.proofs.reader.Reader.parts.Goals as goal

pub returns-in_err-first : goal.returns-in_err-first
returns-in_err-first c = let s = c.args.self.now.text.now in
    let bracket = read_to (expect OPEN s c.args.at) c.in_ok-open.open c.in_ok-open.ensures in
    let minus = read_to (expect_word W_minus s c.in_ok-open.open) c.in_ok-minus.minus c.in_ok-minus.ensures in
    λ w. halted _ _ _ _ c.from_residual-in_err-first.ensures.1 (λ y h. h)
    (goes_on (expect OPEN s c.args.at) _ bracket.0 c.in_ok-open.open bracket.1 ∙ goes_on (expect_word W_minus s c.in_ok-open.open) _ minus.0 c.in_ok-minus.minus minus.1 ∙ halts (expect_name s c.in_ok-minus.minus) _ _ c.in_err-first.ensures)

pub returns-in_err-second : goal.returns-in_err-second
returns-in_err-second c = let s = c.args.self.now.text.now in
    let bracket = read_to (expect OPEN s c.args.at) c.in_ok-open.open c.in_ok-open.ensures in
    let minus = read_to (expect_word W_minus s c.in_ok-open.open) c.in_ok-minus.minus c.in_ok-minus.ensures in
    let first = read_as (expect_name s c.in_ok-minus.minus) _ c.in_ok-first.x_end c.in_ok-first.ensures in
    λ w. halted _ _ _ _ c.from_residual-in_err-second.ensures.1 (λ y h. h)
    (goes_on (expect OPEN s c.args.at) _ bracket.0 c.in_ok-open.open bracket.1 ∙ goes_on (expect_word W_minus s c.in_ok-open.open) _ minus.0 c.in_ok-minus.minus minus.1 ∙ goes_on (expect_name s c.in_ok-minus.minus) _ first.0 c.in_ok-first.x_end first.1.0 ∙ halts (expect_name s c.in_ok-first.x_end) _ _ c.in_err-second.ensures)

pub returns-in_err-close : goal.returns-in_err-close
returns-in_err-close c = let s = c.args.self.now.text.now in
    let bracket = read_to (expect OPEN s c.args.at) c.in_ok-open.open c.in_ok-open.ensures in
    let minus = read_to (expect_word W_minus s c.in_ok-open.open) c.in_ok-minus.minus c.in_ok-minus.ensures in
    let first = read_as (expect_name s c.in_ok-minus.minus) _ c.in_ok-first.x_end c.in_ok-first.ensures in
    let second = read_as (expect_name s c.in_ok-first.x_end) _ c.in_ok-second.y_end c.in_ok-second.ensures in
    λ w. halted _ _ _ _ c.from_residual-in_err-close.ensures.1 (λ y h. h)
    (goes_on (expect OPEN s c.args.at) _ bracket.0 c.in_ok-open.open bracket.1 ∙ goes_on (expect_word W_minus s c.in_ok-open.open) _ minus.0 c.in_ok-minus.minus minus.1 ∙ goes_on (expect_name s c.in_ok-minus.minus) _ first.0 c.in_ok-first.x_end first.1.0 ∙ goes_on (expect_name s c.in_ok-first.x_end) _ second.0 c.in_ok-second.y_end second.1.0 ∙ halts (expect CLOSE s c.in_ok-second.y_end) _ _ c.in_err-close.ensures)

pub returns-in_err-amount : goal.returns-in_err-amount
returns-in_err-amount c = let s = c.args.self.now.text.now in
    let bracket = read_to (expect OPEN s c.args.at) c.in_ok-open.open c.in_ok-open.ensures in
    let minus = read_to (expect_word W_minus s c.in_ok-open.open) c.in_ok-minus.minus c.in_ok-minus.ensures in
    let first = read_as (expect_name s c.in_ok-minus.minus) _ c.in_ok-first.x_end c.in_ok-first.ensures in
    let second = read_as (expect_name s c.in_ok-first.x_end) _ c.in_ok-second.y_end c.in_ok-second.ensures in
    let close = read_to (expect CLOSE s c.in_ok-second.y_end) c.in_ok-close.close c.in_ok-close.ensures in
    λ w. halted _ _ _ _ c.from_residual-in_err-amount.ensures.1 (λ y h. h)
    (goes_on (expect OPEN s c.args.at) _ bracket.0 c.in_ok-open.open bracket.1 ∙ goes_on (expect_word W_minus s c.in_ok-open.open) _ minus.0 c.in_ok-minus.minus minus.1 ∙ goes_on (expect_name s c.in_ok-minus.minus) _ first.0 c.in_ok-first.x_end first.1.0 ∙ goes_on (expect_name s c.in_ok-first.x_end) _ second.0 c.in_ok-second.y_end second.1.0 ∙ goes_on (expect CLOSE s c.in_ok-second.y_end) _ close.0 c.in_ok-close.close close.1 ∙ halts (amount s c.in_ok-close.close) _ _ c.in_err-amount.ensures)

pub returns-in_err-end : goal.returns-in_err-end
returns-in_err-end c = let s = c.args.self.now.text.now in
    let bracket = read_to (expect OPEN s c.args.at) c.in_ok-open.open c.in_ok-open.ensures in
    let minus = read_to (expect_word W_minus s c.in_ok-open.open) c.in_ok-minus.minus c.in_ok-minus.ensures in
    let first = read_as (expect_name s c.in_ok-minus.minus) _ c.in_ok-first.x_end c.in_ok-first.ensures in
    let second = read_as (expect_name s c.in_ok-first.x_end) _ c.in_ok-second.y_end c.in_ok-second.ensures in
    let close = read_to (expect CLOSE s c.in_ok-second.y_end) c.in_ok-close.close c.in_ok-close.ensures in
    let much = read_as (amount s c.in_ok-close.close) _ c.in_ok-amount.past c.in_ok-amount.ensures in
    λ w. halted _ _ _ _ c.from_residual-in_err-end.ensures.1 (λ y h. h)
    (goes_on (expect OPEN s c.args.at) _ bracket.0 c.in_ok-open.open bracket.1 ∙ goes_on (expect_word W_minus s c.in_ok-open.open) _ minus.0 c.in_ok-minus.minus minus.1 ∙ goes_on (expect_name s c.in_ok-minus.minus) _ first.0 c.in_ok-first.x_end first.1.0 ∙ goes_on (expect_name s c.in_ok-first.x_end) _ second.0 c.in_ok-second.y_end second.1.0 ∙ goes_on (expect CLOSE s c.in_ok-second.y_end) _ close.0 c.in_ok-close.close close.1 ∙ goes_on (amount s c.in_ok-close.close) _ much.0 c.in_ok-amount.past much.1.0 ∙ halts (expect CLOSE s c.in_ok-amount.past) _ _ c.in_err-end.ensures)

pub returns : goal.returns
returns c = let s = c.args.self.now.text.now in
    let bracket = read_to (expect OPEN s c.args.at) c.in_ok-open.open c.in_ok-open.ensures in
    let minus = read_to (expect_word W_minus s c.in_ok-open.open) c.in_ok-minus.minus c.in_ok-minus.ensures in
    let first = read_as (expect_name s c.in_ok-minus.minus) _ c.in_ok-first.x_end c.in_ok-first.ensures in
    let second = read_as (expect_name s c.in_ok-first.x_end) _ c.in_ok-second.y_end c.in_ok-second.ensures in
    let close = read_to (expect CLOSE s c.in_ok-second.y_end) c.in_ok-close.close c.in_ok-close.ensures in
    let much = read_as (amount s c.in_ok-close.close) _ c.in_ok-amount.past c.in_ok-amount.ensures in
    let end = read_to (expect CLOSE s c.in_ok-amount.past) c.in_ok-end.end c.in_ok-end.ensures in
    λ w. came_to _ _ (Term.atom w first.0 second.0 much.0) c.in_ok-end.end
    (goes_on (expect OPEN s c.args.at) _ bracket.0 c.in_ok-open.open bracket.1 ∙ goes_on (expect_word W_minus s c.in_ok-open.open) _ minus.0 c.in_ok-minus.minus minus.1 ∙ goes_on (expect_name s c.in_ok-minus.minus) _ first.0 c.in_ok-first.x_end first.1.0 ∙ goes_on (expect_name s c.in_ok-first.x_end) _ second.0 c.in_ok-second.y_end second.1.0 ∙ goes_on (expect CLOSE s c.in_ok-second.y_end) _ close.0 c.in_ok-close.close close.1 ∙ goes_on (amount s c.in_ok-close.close) _ much.0 c.in_ok-amount.past much.1.0 ∙ goes_on (expect CLOSE s c.in_ok-amount.past) _ end.0 c.in_ok-end.end end.1)
    (refl, (refl, record { first_is = first.1.1; second_is = second.1.1; says = same_amount _ (subst Small (sym much.1.1) (capped_small much.0)) ∙ much.1.1 }))
