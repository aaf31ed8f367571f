use Rattle.std.proofs.Common.{◌∙◌, sym}
use Rattle.segment_image.proofs.Fitted.{fitted-is, in_range, if-true, fitted-most, fitted-pages}
use Rattle.segment_image.proofs.shape.Shape.fit.Goals as goal

pub returns-clause-shape : goal.returns-clause-shape
returns-clause-shape c =
    fitted-is c.args.words c.div_ceil-pages.result c.div_ceil-pages.ensures c.if-words-lt-MIN_PAGE.false
    c.if-words-gt-MAX_SIZE.false c.of.result c.of.ensures
    ∙ sym (if-true _ _ _ (in_range c.args.words c.if-words-lt-MIN_PAGE.false c.if-words-gt-MAX_SIZE.false))

pub returns-clause-most : goal.returns-clause-most
returns-clause-most c =
    fitted-most c.args.words c.of.result c.if-words-lt-MIN_PAGE.false
    (fitted-is c.args.words c.div_ceil-pages.result c.div_ceil-pages.ensures c.if-words-lt-MIN_PAGE.false
    c.if-words-gt-MAX_SIZE.false c.of.result c.of.ensures)

pub returns-clause-page : goal.returns-clause-page
returns-clause-page c =
    fitted-pages c.args.words c.of.result c.if-words-lt-MIN_PAGE.false
    (fitted-is c.args.words c.div_ceil-pages.result c.div_ceil-pages.ensures c.if-words-lt-MIN_PAGE.false
    c.if-words-gt-MAX_SIZE.false c.of.result c.of.ensures)
