mod Lends
