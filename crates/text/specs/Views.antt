-- What the code's words stand for.
use Rattle.text.specs.Text.{Piece, piece}
use Rattle.text.specs.Words.{Lexeme, keyword, unknown, plain}
use Rattle.text.specs.declared.word.Word.{Word}
use Rattle.text.specs.declared.word.Token.{Token}
use Rattle.text.specs.declared.word.Token.TheVariants.{Keyword, Dotted, Plain}

abbrev pub piece_of : Word → Piece
piece_of w = piece w.at w.text.now

abbrev pub lexeme_in : Token → Lexeme
lexeme_in (Keyword c w) = keyword c (piece_of w)
lexeme_in (Dotted w) = unknown (piece_of w)
lexeme_in (Plain w) = plain (piece_of w)
