-- The kind numbers of docs/KINDS.md. Tokens are K-.., with the Rust's spelling of K![..] above each; nodes have their Rust names.
-- (A name can hold no bracket, dot, comma or semicolon, and `--` begins a comment: those are spelt out.)
-- Assumes nothing.
use Rattle.std.specs.Prelude.{ℕ, List, [], ◌∷◌}

-- past the last token
abbrev pub Eof : ℕ
Eof = 0

-- ## Tokens, 1 to 127

-- ident
abbrev pub K-ident : ℕ
K-ident = 1

-- ::
abbrev pub K-:: : ℕ
K-:: = 2

-- super
abbrev pub K-super : ℕ
K-super = 3

-- crate
abbrev pub K-crate : ℕ
K-crate = 4

-- self
abbrev pub K-self : ℕ
K-self = 5

-- Self
abbrev pub K-Self : ℕ
K-Self = 6

-- true
abbrev pub K-true : ℕ
K-true = 7

-- false
abbrev pub K-false : ℕ
K-false = 8

-- number
abbrev pub K-number : ℕ
K-number = 9

-- str
abbrev pub K-str : ℕ
K-str = 10

-- bytestr
abbrev pub K-bytestr : ℕ
K-bytestr = 11

-- char
abbrev pub K-char : ℕ
K-char = 12

-- byte
abbrev pub K-byte : ℕ
K-byte = 13

-- Whitespace
abbrev pub K-Whitespace : ℕ
K-Whitespace = 14

-- Comment
abbrev pub K-Comment : ℕ
K-Comment = 15

-- MultilineComment
abbrev pub K-MultilineComment : ℕ
K-MultilineComment = 16

-- Other
abbrev pub K-Other : ℕ
K-Other = 17

-- '('
abbrev pub K-paren : ℕ
K-paren = 18

-- ')'
abbrev pub K-paren-end : ℕ
K-paren-end = 19

-- '['
abbrev pub K-bracket : ℕ
K-bracket = 20

-- ']'
abbrev pub K-bracket-end : ℕ
K-bracket-end = 21

-- '{'
abbrev pub K-brace : ℕ
K-brace = 22

-- '}'
abbrev pub K-brace-end : ℕ
K-brace-end = 23

-- ,
abbrev pub K-comma : ℕ
K-comma = 24

-- .
abbrev pub K-dot : ℕ
K-dot = 25

-- ;
abbrev pub K-semi : ℕ
K-semi = 26

-- :
abbrev pub K-: : ℕ
K-: = 27

-- =
abbrev pub K-= : ℕ
K-= = 28

-- !
abbrev pub K-! : ℕ
K-! = 29

-- -
abbrev pub K-dash : ℕ
K-dash = 30

-- &
abbrev pub K-& : ℕ
K-& = 31

-- *
abbrev pub K-* : ℕ
K-* = 32

-- ?
abbrev pub K-? : ℕ
K-? = 33

-- 'label
abbrev pub K-label : ℕ
K-label = 34

-- #
abbrev pub K-# : ℕ
K-# = 35

-- <
abbrev pub K-< : ℕ
K-< = 36

-- >
abbrev pub K-> : ℕ
K-> = 37

-- +
abbrev pub K-+ : ℕ
K-+ = 38

-- /
abbrev pub K-/ : ℕ
K-/ = 39

-- %
abbrev pub K-% : ℕ
K-% = 40

-- ==
abbrev pub K-== : ℕ
K-== = 41

-- !=
abbrev pub K-!= : ℕ
K-!= = 42

-- <=
abbrev pub K-<= : ℕ
K-<= = 43

-- >=
abbrev pub K->= : ℕ
K->= = 44

-- &&
abbrev pub K-&& : ℕ
K-&& = 45

-- ||
abbrev pub K-|| : ℕ
K-|| = 46

-- <<
abbrev pub K-<< : ℕ
K-<< = 47

-- >>
abbrev pub K->> : ℕ
K->> = 48

-- ^
abbrev pub K-^ : ℕ
K-^ = 49

-- |
abbrev pub K-| : ℕ
K-| = 50

-- as
abbrev pub K-as : ℕ
K-as = 51

-- is
abbrev pub K-is : ℕ
K-is = 52

-- not
abbrev pub K-not : ℕ
K-not = 53

-- +=
abbrev pub K-+= : ℕ
K-+= = 54

-- -=
abbrev pub K-dash= : ℕ
K-dash= = 55

-- *=
abbrev pub K-*= : ℕ
K-*= = 56

-- /=
abbrev pub K-/= : ℕ
K-/= = 57

-- %=
abbrev pub K-%= : ℕ
K-%= = 58

-- &=
abbrev pub K-&= : ℕ
K-&= = 59

-- ^=
abbrev pub K-^= : ℕ
K-^= = 60

-- |=
abbrev pub K-|= : ℕ
K-|= = 61

-- <<=
abbrev pub K-<<= : ℕ
K-<<= = 62

-- >>=
abbrev pub K->>= : ℕ
K->>= = 63

-- ..
abbrev pub K-dotdot : ℕ
K-dotdot = 64

-- ..=
abbrev pub K-dotdot= : ℕ
K-dotdot= = 65

-- =>
abbrev pub K-=> : ℕ
K-=> = 66

-- _
abbrev pub K-underscore : ℕ
K-underscore = 67

-- OpenEmpty
abbrev pub K-OpenEmpty : ℕ
K-OpenEmpty = 68

-- CloseEmpty
abbrev pub K-CloseEmpty : ℕ
K-CloseEmpty = 69

-- TemplateString
abbrev pub K-TemplateString : ℕ
K-TemplateString = 70

-- async
abbrev pub K-async : ℕ
K-async = 71

-- await
abbrev pub K-await : ℕ
K-await = 72

-- break
abbrev pub K-break : ℕ
K-break = 73

-- const
abbrev pub K-const : ℕ
K-const = 74

-- continue
abbrev pub K-continue : ℕ
K-continue = 75

-- default
abbrev pub K-default : ℕ
K-default = 76

-- else
abbrev pub K-else : ℕ
K-else = 77

-- enum
abbrev pub K-enum : ℕ
K-enum = 78

-- fn
abbrev pub K-fn : ℕ
K-fn = 79

-- for
abbrev pub K-for : ℕ
K-for = 80

-- if
abbrev pub K-if : ℕ
K-if = 81

-- impl
abbrev pub K-impl : ℕ
K-impl = 82

-- in
abbrev pub K-in : ℕ
K-in = 83

-- let
abbrev pub K-let : ℕ
K-let = 84

-- loop
abbrev pub K-loop : ℕ
K-loop = 85

-- match
abbrev pub K-match : ℕ
K-match = 86

-- mod
abbrev pub K-mod : ℕ
K-mod = 87

-- move
abbrev pub K-move : ℕ
K-move = 88

-- pub
abbrev pub K-pub : ℕ
K-pub = 89

-- return
abbrev pub K-return : ℕ
K-return = 90

-- select
abbrev pub K-select : ℕ
K-select = 91

-- struct
abbrev pub K-struct : ℕ
K-struct = 92

-- use
abbrev pub K-use : ℕ
K-use = 93

-- while
abbrev pub K-while : ℕ
K-while = 94

-- yield
abbrev pub K-yield : ℕ
K-yield = 95

-- every token's kind, by name: a number that is not among them is unassigned (`tools/check-kinds` compares)
unfoldable pub tokens : List ℕ
tokens =
    K-ident ∷ K-:: ∷ K-super ∷ K-crate ∷ K-self ∷ K-Self ∷ K-true ∷ K-false ∷ K-number ∷ K-str ∷ K-bytestr ∷ K-char ∷
    K-byte ∷ K-Whitespace ∷ K-Comment ∷ K-MultilineComment ∷ K-Other ∷ K-paren ∷ K-paren-end ∷ K-bracket ∷ K-bracket-end ∷ K-brace ∷ K-brace-end ∷ K-comma ∷
    K-dot ∷ K-semi ∷ K-: ∷ K-= ∷ K-! ∷ K-dash ∷ K-& ∷ K-* ∷ K-? ∷ K-label ∷ K-# ∷ K-< ∷
    K-> ∷ K-+ ∷ K-/ ∷ K-% ∷ K-== ∷ K-!= ∷ K-<= ∷ K->= ∷ K-&& ∷ K-|| ∷ K-<< ∷ K->> ∷
    K-^ ∷ K-| ∷ K-as ∷ K-is ∷ K-not ∷ K-+= ∷ K-dash= ∷ K-*= ∷ K-/= ∷ K-%= ∷ K-&= ∷ K-^= ∷
    K-|= ∷ K-<<= ∷ K->>= ∷ K-dotdot ∷ K-dotdot= ∷ K-=> ∷ K-underscore ∷ K-OpenEmpty ∷ K-CloseEmpty ∷ K-TemplateString ∷ K-async ∷ K-await ∷
    K-break ∷ K-const ∷ K-continue ∷ K-default ∷ K-else ∷ K-enum ∷ K-fn ∷ K-for ∷ K-if ∷ K-impl ∷ K-in ∷ K-let ∷
    K-loop ∷ K-match ∷ K-mod ∷ K-move ∷ K-pub ∷ K-return ∷ K-select ∷ K-struct ∷ K-use ∷ K-while ∷ K-yield ∷ []

-- ## Nodes, 128 to 255

-- Root
abbrev pub Root : ℕ
Root = 128

-- Expr
abbrev pub Expr : ℕ
Expr = 129

-- Error
abbrev pub Error : ℕ
Error = 130

-- Local
abbrev pub Local : ℕ
Local = 131

-- Item
abbrev pub Item : ℕ
Item = 132

-- ItemConst
abbrev pub ItemConst : ℕ
ItemConst = 133

-- ItemEnum
abbrev pub ItemEnum : ℕ
ItemEnum = 134

-- ItemFileMod
abbrev pub ItemFileMod : ℕ
ItemFileMod = 135

-- ItemFn
abbrev pub ItemFn : ℕ
ItemFn = 136

-- ItemImpl
abbrev pub ItemImpl : ℕ
ItemImpl = 137

-- ItemMod
abbrev pub ItemMod : ℕ
ItemMod = 138

-- ItemStruct
abbrev pub ItemStruct : ℕ
ItemStruct = 139

-- ItemUse
abbrev pub ItemUse : ℕ
ItemUse = 140

-- ItemUseGroup
abbrev pub ItemUseGroup : ℕ
ItemUseGroup = 141

-- ItemUsePath
abbrev pub ItemUsePath : ℕ
ItemUsePath = 142

-- InnerAttribute
abbrev pub InnerAttribute : ℕ
InnerAttribute = 143

-- Attribute
abbrev pub Attribute : ℕ
Attribute = 144

-- TokenStream
abbrev pub TokenStream : ℕ
TokenStream = 145

-- Modifiers
abbrev pub Modifiers : ℕ
Modifiers = 146

-- ModifierSuper
abbrev pub ModifierSuper : ℕ
ModifierSuper = 147

-- ModifierSelf
abbrev pub ModifierSelf : ℕ
ModifierSelf = 148

-- ModifierCrate
abbrev pub ModifierCrate : ℕ
ModifierCrate = 149

-- ModifierIn
abbrev pub ModifierIn : ℕ
ModifierIn = 150

-- EmptyBody
abbrev pub EmptyBody : ℕ
EmptyBody = 151

-- StructBody
abbrev pub StructBody : ℕ
StructBody = 152

-- TupleBody
abbrev pub TupleBody : ℕ
TupleBody = 153

-- Field
abbrev pub Field : ℕ
Field = 154

-- Variant
abbrev pub Variant : ℕ
Variant = 155

-- FnArgs
abbrev pub FnArgs : ℕ
FnArgs = 156

-- Pat
abbrev pub Pat : ℕ
Pat = 157

-- PatArray
abbrev pub PatArray : ℕ
PatArray = 158

-- PatIgnore
abbrev pub PatIgnore : ℕ
PatIgnore = 159

-- PatObject
abbrev pub PatObject : ℕ
PatObject = 160

-- PatTuple
abbrev pub PatTuple : ℕ
PatTuple = 161

-- AnonymousObjectKey
abbrev pub AnonymousObjectKey : ℕ
AnonymousObjectKey = 162

-- Path
abbrev pub Path : ℕ
Path = 163

-- PathGenerics
abbrev pub PathGenerics : ℕ
PathGenerics = 164

-- Lit
abbrev pub Lit : ℕ
Lit = 165

-- TemplateString
abbrev pub TemplateString : ℕ
TemplateString = 166

-- Block
abbrev pub Block : ℕ
Block = 167

-- BlockBody
abbrev pub BlockBody : ℕ
BlockBody = 168

-- Condition
abbrev pub Condition : ℕ
Condition = 169

-- ClosureArguments
abbrev pub ClosureArguments : ℕ
ClosureArguments = 170

-- ExprArray
abbrev pub ExprArray : ℕ
ExprArray = 171

-- ExprAssign
abbrev pub ExprAssign : ℕ
ExprAssign = 172

-- ExprAwait
abbrev pub ExprAwait : ℕ
ExprAwait = 173

-- ExprBinary
abbrev pub ExprBinary : ℕ
ExprBinary = 174

-- ExprBreak
abbrev pub ExprBreak : ℕ
ExprBreak = 175

-- ExprCall
abbrev pub ExprCall : ℕ
ExprCall = 176

-- ExprChain
abbrev pub ExprChain : ℕ
ExprChain = 177

-- ExprClosure
abbrev pub ExprClosure : ℕ
ExprClosure = 178

-- ExprContinue
abbrev pub ExprContinue : ℕ
ExprContinue = 179

-- ExprElse
abbrev pub ExprElse : ℕ
ExprElse = 180

-- ExprElseIf
abbrev pub ExprElseIf : ℕ
ExprElseIf = 181

-- ExprEmptyGroup
abbrev pub ExprEmptyGroup : ℕ
ExprEmptyGroup = 182

-- ExprField
abbrev pub ExprField : ℕ
ExprField = 183

-- ExprFor
abbrev pub ExprFor : ℕ
ExprFor = 184

-- ExprGroup
abbrev pub ExprGroup : ℕ
ExprGroup = 185

-- ExprIf
abbrev pub ExprIf : ℕ
ExprIf = 186

-- ExprIndex
abbrev pub ExprIndex : ℕ
ExprIndex = 187

-- ExprLoop
abbrev pub ExprLoop : ℕ
ExprLoop = 188

-- ExprMacroCall
abbrev pub ExprMacroCall : ℕ
ExprMacroCall = 189

-- ExprMatch
abbrev pub ExprMatch : ℕ
ExprMatch = 190

-- ExprMatchArm
abbrev pub ExprMatchArm : ℕ
ExprMatchArm = 191

-- ExprObject
abbrev pub ExprObject : ℕ
ExprObject = 192

-- ExprOperator
abbrev pub ExprOperator : ℕ
ExprOperator = 193

-- ExprRange
abbrev pub ExprRange : ℕ
ExprRange = 194

-- ExprRangeFrom
abbrev pub ExprRangeFrom : ℕ
ExprRangeFrom = 195

-- ExprRangeFull
abbrev pub ExprRangeFull : ℕ
ExprRangeFull = 196

-- ExprRangeInclusive
abbrev pub ExprRangeInclusive : ℕ
ExprRangeInclusive = 197

-- ExprRangeTo
abbrev pub ExprRangeTo : ℕ
ExprRangeTo = 198

-- ExprRangeToInclusive
abbrev pub ExprRangeToInclusive : ℕ
ExprRangeToInclusive = 199

-- ExprReturn
abbrev pub ExprReturn : ℕ
ExprReturn = 200

-- ExprSelect
abbrev pub ExprSelect : ℕ
ExprSelect = 201

-- ExprSelectArm
abbrev pub ExprSelectArm : ℕ
ExprSelectArm = 202

-- ExprTry
abbrev pub ExprTry : ℕ
ExprTry = 203

-- ExprTuple
abbrev pub ExprTuple : ℕ
ExprTuple = 204

-- ExprUnary
abbrev pub ExprUnary : ℕ
ExprUnary = 205

-- ExprWhile
abbrev pub ExprWhile : ℕ
ExprWhile = 206

-- ExprYield
abbrev pub ExprYield : ℕ
ExprYield = 207
